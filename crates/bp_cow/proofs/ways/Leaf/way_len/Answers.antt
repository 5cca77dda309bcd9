use Rattle.std.proofs.Common.{arith}
use Rattle.bp_cow.proofs.RunLaws.{length-run_way}
use Rattle.bp_cow.proofs.ways.Leaf.way_len.Goals as goal

pub returns : goal.returns
returns c = omega (arith, c.len.ensures.value, length-run_way c.args.self.now.run.now c.args.self.now.index)
