use Rattle.std.proofs.Common.{arith}
use Rattle.bp_free.proofs.Complement.{word_turned}
use Rattle.bp_free.proofs.bits.turned_over.Goals as goal

pub returns : goal.returns
returns c = word_turned c.args.word c.args.count _ (omega (arith, c.ranges.word.fits)) c.requires c.low_ones.ensures
