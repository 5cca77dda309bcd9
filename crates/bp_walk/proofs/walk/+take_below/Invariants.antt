use Rattle.std.proofs.Common.{◌-◌, ◌≤◌}
use Rattle.pm_region.specs.Memory.{current_words}
use Rattle.bp_walk.specs.Walk.{WalksBelow}
use Rattle.bp_walk.proofs.walk.+take_below.Given as goal

abbrev pub decreases-take_below : goal.decreases-take_below
decreases-take_below g l = l.top.level

-- the blocks below the slots so far have left
abbrev pub invariant-loop-slot : goal.invariant-loop-slot
invariant-loop-slot g l = record {
  most : l.slot ≤ l.live;
  walks : WalksBelow (current_words (g.R.Region.memory l.region)) 0 l.tree.root l.tree.size l.holes l.top.depth l.top.index l.slot l.initial.blocks l.blocks;
}

abbrev pub decreases-loop-slot : goal.decreases-loop-slot
decreases-loop-slot g l = l.live - l.slot
