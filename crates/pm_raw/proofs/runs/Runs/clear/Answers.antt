use Rattle.std.proofs.Common.{[], ap, arith, length, sym}
use Rattle.pm_raw.proofs.WordLaws.{runs-none, runs-same, word-same}
use Rattle.pm_raw.proofs.runs.Runs.clear.Goals as goal

pub invariant_of-self : goal.invariant_of-self
invariant_of-self c = record {
  are = runs-same [] [] _ _ c.clear.ensures.items c.clear-2.ensures.items 0 0 runs-none;
  next = sym (word-same [] [] _ _ c.clear.ensures.items c.clear-2.ensures.items 0);
  few = omega (arith, ap length c.clear.ensures.items);
  counted = omega arith;
  firsts_room = omega (arith, c.clear.ensures.capacity, c.self.invariant.firsts_room);
  starts_room = omega (arith, c.clear-2.ensures.capacity, c.self.invariant.starts_room);
}
