use Rattle.bp_reference.proofs.LatestLaws.{drained_in_step}
use Rattle.bp_reference.specs.State.{trees_in}
use Rattle.bp_reference.proofs.calls.ReferenceFileSystem.sync.Goals as goal

pub invariant_of-self : goal.invariant_of-self
invariant_of-self c = record { in_step = drained_in_step (trees_in c.args.self.now) _ _ _ c.args.self.now.in_step c.drain.ensures c.settle.ensures.since }
