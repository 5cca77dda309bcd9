use Rattle.std.proofs.Common.{arith}
use Rattle.bp_free.proofs.Summary.{counted_below_empty}
use Rattle.bp_free.proofs.numbers.Numbers.with_room.Goals as goal

pub invariant_of-result : goal.invariant_of-result
invariant_of-result g c =
    rw (c.in_ok-free.ensures, c.in_ok-summary.ensures)
    (counted_below_empty _ c.args.room c.div_ceil.result g.K.Kind.fits c.requires (omega (arith, c.div_ceil.ensures)))
