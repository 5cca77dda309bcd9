use Rattle.bp_cache.specs.Collisions.{CollidesBelow, IsLeastNamed}
use Rattle.pm_region.specs.Memory.{current_words}
use Rattle.bp_cache.proofs.collisions.Collisions.find.Given as goal

abbrev pub invariant-loop-at : goal.invariant-loop-at
invariant-loop-at g l =
    IsLeastNamed (current_words (g.R.Region.memory l.region)) l.tree.root l.tree.size l.name (CollidesBelow l.self.slots.items l.at l.hash) l.least
