use Rattle.bp_reference.proofs.LatestLaws.{crashed_in_step}
use Rattle.bp_reference.specs.State.{trees_in}
use Rattle.bp_reference.proofs.calls.ReferenceFileSystem.crash.Goals as goal

pub invariant_of-self-2 : goal.invariant_of-self-2
invariant_of-self-2 c = record { in_step = crashed_in_step (trees_in c.args.self.now) _ _ _ c.args.choice.now.cut c.args.self.now.in_step c.in_ok-kept.ensures.left c.settle.ensures.since }
