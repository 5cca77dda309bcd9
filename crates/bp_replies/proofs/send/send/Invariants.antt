use Rattle.std.proofs.Common.{length, ◌-◌, ◌≡◌, ◌≤◌, take}
use Rattle.std.specs.Io.KnownBytes.{Appends}
use Rattle.bp_replies.proofs.send.send.Given as goal

-- the prefix of the bytes was taken, and no fault counted
abbrev pub invariant-loop-at : goal.invariant-loop-at
invariant-loop-at g l =
    record {
      within : l.at ≤ length l.bytes;
      taken : Appends (g.K.Sink.view l.fn.out).taken (g.K.Sink.view l.out).taken (take l.at l.bytes);
      faults : (g.K.Sink.view l.out).faults ≡ (g.K.Sink.view l.fn.out).faults;
    }

abbrev pub decreases-loop-at : goal.decreases-loop-at
decreases-loop-at g l = length l.bytes - l.at
