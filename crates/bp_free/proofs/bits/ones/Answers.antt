use Rattle.std.proofs.Common.{arith}
use Rattle.bp_free.proofs.Words.{powers_rise}
use Rattle.bp_free.proofs.bits.ones.Goals as goal

pub overflow_sub-result : goal.overflow_sub-result
overflow_sub-result c =
    let rise = powers_rise c.args.first c.args.count in
    omega (arith, rise, c.low_ones.ensures, c.low_ones-2.ensures)

pub returns : goal.returns
returns c =
    let rise = powers_rise c.args.first c.args.count in
    omega (arith, rise, c.low_ones.ensures, c.low_ones-2.ensures)
