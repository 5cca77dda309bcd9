use Rattle.std.proofs.Common.{arith}
use Rattle.bp_cow.proofs.RunLaws.{run_end-few}
use Rattle.bp_cow.proofs.lay.covers.Goals as goal

pub overflow_add-end : goal.overflow_add-end
overflow_add-end c = omega (arith, run_end-few c.args.run.now c.requires.run)
