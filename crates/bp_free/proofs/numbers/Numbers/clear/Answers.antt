use Rattle.bp_free.proofs.Summary.{counted_below_empty}
use Rattle.bp_free.proofs.numbers.Numbers.clear.Goals as goal

pub invariant_of-self : goal.invariant_of-self
invariant_of-self g c =
    rw (c.clear.ensures, c.clear-2.ensures)
    (counted_below_empty _ _ _ g.K.Kind.fits c.self.invariant.low c.self.invariant.counted.summary.room)
