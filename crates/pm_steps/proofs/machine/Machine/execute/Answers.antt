use Rattle.pm_steps.proofs.Order.{in_order_execute}
use Rattle.pm_steps.proofs.machine.Machine.execute.Goals as goal

pub invariant_of-self-clause-in_order : goal.invariant_of-self-clause-in_order
invariant_of-self-clause-in_order g c = rw c.push.ensures (in_order_execute (g.R.Region.memory c.args.self.now.region.now).events c.args.self.now.backs.now.back c.args.self.now.in_order c.requires)
