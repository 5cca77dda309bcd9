use Rattle.std.proofs.Common.{◌≡◌, ℕ, ◌+◌, ◌<◌, ◌==◌, false}
use Rattle.bp_layout.specs.Directory.{ino_in}
use Rattle.pm_region.specs.Memory.{current_words}
use Rattle.bp_read.proofs.leaf.Leaf.first_empty.Given as goal

abbrev pub invariant-loop-index : goal.invariant-loop-index
invariant-loop-index g l = (k : ℕ) → k < l.index → (ino_in (current_words (g.R.Region.memory l.region)) l.self.tree.root (l.self.first + k) == 0) ≡ false
