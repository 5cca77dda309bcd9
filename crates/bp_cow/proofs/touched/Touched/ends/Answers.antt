use Rattle.std.proofs.Common.{length, arith}
use Rattle.bp_cow.proofs.RunsLaws.{ends-count}
use Rattle.bp_cow.proofs.touched.Touched.ends.Goals as goal

pub returns : goal.returns
returns c = omega (arith, ends-count c.args.self.now.runs.now (length c.args.self.now.words.now))
