use Rattle.std.proofs.Common.{arith}
use Rattle.bp_samples.proofs.cores.two_cores.Goals as goal

pub new-requires-clause-whole : goal.new-requires-clause-whole
new-requires-clause-whole c = (2, omega arith, omega arith)
