use Rattle.std.proofs.Common.{◌≡◌, ℕ, ◌*◌, ◌/◌, ◌-◌, ◌^◌, ◌<◌, ◌≤◌}
use Rattle.bp_layout.specs.Words.{height_of}
use Rattle.bp_layout.specs.Tree.{node}
use Rattle.pm_region.specs.Memory.{current_words}
use Rattle.bp_read.proofs.leaves.+next_leaf.Given as goal

-- each leaf from `from` on that is below the slots so far is null
abbrev pub invariant-loop-slot : goal.invariant-loop-slot
invariant-loop-slot g l =
    (leaf : ℕ) → l.from ≤ leaf → leaf / 512 ^ (height_of l.tree.root - 1) < l.slot → 4096 * leaf < l.tree.size → node (current_words (g.R.Region.memory l.region)) l.tree.root (height_of l.tree.root) leaf ≡ 0

abbrev pub decreases-next_leaf : goal.decreases-next_leaf
decreases-next_leaf g l = height_of l.tree.root
