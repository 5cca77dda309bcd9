use Rattle.std.proofs.Common.{arith}
use Rattle.bp_free.proofs.Words.{lowest_bit}
use Rattle.bp_free.proofs.bits.lowest_bit.Goals as goal

pub returns : goal.returns
returns c = lowest_bit c.args.word (omega arith) (omega (arith, c.ranges.word.fits))
