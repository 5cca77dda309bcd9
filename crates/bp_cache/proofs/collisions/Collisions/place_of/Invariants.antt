use Rattle.bp_cache.specs.Collisions.{CollidesBelow}
use Rattle.bp_cache.proofs.collisions.Collisions.place_of.Given as goal

abbrev pub invariant-loop-at : goal.invariant-loop-at
invariant-loop-at l = CollidesBelow l.self.slots.items l.at l.hash l.slot → ⊥
