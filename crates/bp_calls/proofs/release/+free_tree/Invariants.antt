use Rattle.std.proofs.Common.{◌-◌}
use Rattle.bp_layout.specs.Words.{height_of}
use Rattle.pm_region.specs.Memory.{current_words}
use Rattle.bp_calls.specs.Truncated.{IsTruncatedIn}
use Rattle.bp_calls.specs.GivenBack.{GivesBack}
use Rattle.bp_free.specs.Set.{has}
use Rattle.bp_calls.proofs.release.+free_tree.Given as goal

abbrev pub decreases-free_tree : goal.decreases-free_tree
decreases-free_tree g l = height_of l.tree.root

-- what is given up in the slots so far is back
abbrev pub invariant-loop-slot : goal.invariant-loop-slot
invariant-loop-slot g l = GivesBack (has l.snapshot_blocks) (IsTruncatedIn (current_words (g.R.Region.memory l.region)) l.tree.root l.tree.size (height_of l.tree.root - 1) l.shorter l.slot) l.fn.blocks l.blocks
