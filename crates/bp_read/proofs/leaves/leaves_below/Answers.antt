use Rattle.std.proofs.Common.{◌-◌, arith}
use Rattle.bp_read.proofs.NullLeaves.{power_some}
use Rattle.bp_read.proofs.leaves.leaves_below.Goals as goal

pub returns-clause-some : goal.returns-clause-some
returns-clause-some c = omega (arith, c.span.ensures, power_some (c.height-level.result - 1))
