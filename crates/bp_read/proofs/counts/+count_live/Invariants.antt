use Rattle.std.proofs.Common.{◌-◌}
use Rattle.bp_layout.specs.Words.{height_of}
use Rattle.pm_region.specs.Memory.{current_words}
use Rattle.bp_read.proofs.BlockCounts.{CountsUpTo}
use Rattle.bp_read.proofs.counts.+count_live.Given as goal

-- the topmost block and those below the slots so far
abbrev pub invariant-loop-slot : goal.invariant-loop-slot
invariant-loop-slot g l = CountsUpTo (current_words (g.R.Region.memory l.region)) l.tree.root l.tree.size (height_of l.tree.root - 1) l.slot l.count

abbrev pub decreases-count_live : goal.decreases-count_live
decreases-count_live g l = height_of l.tree.root
