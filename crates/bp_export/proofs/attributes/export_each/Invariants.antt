use Rattle.std.specs.Prelude.{Ok}
use Rattle.bp_layout.specs.Inode.{attributes_of}
use Rattle.bp_plain.specs.Export.{set_of}
use Rattle.bp_replies.specs.Gathering.{waiting}
use Rattle.pm_region.specs.Memory.{current_words}
use Rattle.bp_export.specs.Report.{Reports}
use Rattle.bp_export.proofs.CallsInRow.{calls_until}
use Rattle.bp_export.proofs.attributes.export_each.Given as goal

-- the attributes before one are reported
abbrev pub invariant-loop-number : goal.invariant-loop-number
invariant-loop-number g l =
    Reports {T = Unit {0}} (calls_until (set_of l.path (attributes_of (current_words (g.R.Region.memory l.region)) l.ino)) l.number) (Ok tt) (waiting l.fn.replies) (waiting l.replies) (g.K.Sink.view l.fn.out) (g.K.Sink.view l.out)
