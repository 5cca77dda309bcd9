use Rattle.std.proofs.Common.{arith}
use Rattle.bp_cow.proofs.RunLaws.{run_end-few}
use Rattle.bp_cow.proofs.touched.Run.meets.Goals as goal

pub overflow_add-end : goal.overflow_add-end
overflow_add-end c = omega (arith, run_end-few c.args.self.now c.requires.run)
