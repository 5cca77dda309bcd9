use Rattle.bp_cache.proofs.CollisionLaws.{IsLeastBelow}
use Rattle.bp_cache.proofs.collisions.Collisions.least.Given as goal

abbrev pub invariant-loop-at : goal.invariant-loop-at
invariant-loop-at l = IsLeastBelow l.self.slots.items l.at l.hash l.least
