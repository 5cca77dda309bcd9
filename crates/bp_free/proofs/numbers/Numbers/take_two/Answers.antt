use Rattle.std.proofs.Common.{arith}
use Rattle.bp_free.proofs.numbers.Numbers.take_two.Goals as goal

pub invariant_of-self : goal.invariant_of-self
invariant_of-self g c = record {
  counted = c.take_from-second.ensures.counted;
  low = omega (arith, c.take_from-second.ensures.room, c.take_from-first.ensures.room, c.self.invariant.low);
}
