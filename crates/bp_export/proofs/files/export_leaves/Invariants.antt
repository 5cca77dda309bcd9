use Rattle.std.proofs.Common.{◌≡◌, ℕ, ◌-◌, ◌≤◌, length}
use Rattle.std.specs.Prelude.{Ok}
use Rattle.bp_layout.specs.Tree.{content}
use Rattle.bp_plain.specs.Export.{stretches}
use Rattle.bp_replies.specs.Gathering.{waiting}
use Rattle.pm_region.specs.Memory.{current_words}
use Rattle.bp_export.specs.Report.{Reports}
use Rattle.bp_export.proofs.FileLines.{ReportedTo, writes_until}
use Rattle.bp_export.proofs.files.export_leaves.Given as goal

-- the stretches before one are reported
abbrev pub invariant-loop-leaf : goal.invariant-loop-leaf
invariant-loop-leaf g l =
    record {
      lines : Reports {T = ℕ} (writes_until l.path (content (current_words (g.R.Region.memory l.region)) l.tree.root l.tree.size) l.from) (Ok 0) (waiting l.fn.replies) (waiting l.replies) (g.K.Sink.view l.fn.out) (g.K.Sink.view l.out);
      noted : ReportedTo (content (current_words (g.R.Region.memory l.region)) l.tree.root l.tree.size) l.from l.noted;
      low : l.from ≤ stretches (content (current_words (g.R.Region.memory l.region)) l.tree.root l.tree.size);
      room : length l.block ≡ 4096;
    }

abbrev pub decreases-loop-leaf : goal.decreases-loop-leaf
decreases-loop-leaf g l = stretches (content (current_words (g.R.Region.memory l.region)) l.tree.root l.tree.size) - l.from
