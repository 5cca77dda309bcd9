use Rattle.std.proofs.Common.{◌≡◌, take}
use Rattle.std.specs.Prelude.{flat_map}
use Rattle.bp_script.specs.Texts.{entry_text}
use Rattle.bp_replies.specs.Gathering.{PassesOn, waiting}
use Rattle.bp_session.proofs.replies.write_names.Given as goal

-- the lines of the first names were reported
abbrev pub invariant-loop-i : goal.invariant-loop-i
invariant-loop-i g l =
    record {
      passes : PassesOn (flat_map entry_text (take l.i l.listing)) (waiting l.fn.replies) (waiting l.replies) (g.K.Sink.view l.fn.out).taken (g.K.Sink.view l.out).taken;
      faults : (g.K.Sink.view l.out).faults ≡ (g.K.Sink.view l.fn.out).faults;
    }
