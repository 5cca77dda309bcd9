use Rattle.std.proofs.Common.{arith}
use Rattle.bp_script.proofs.DigitPairs.{table_is}
use Rattle.bp_script.proofs.digits.value_of.Goals as goal

pub returns : goal.returns
returns c = table_is c.args.digit (omega (arith, c.ranges.digit.fits))
