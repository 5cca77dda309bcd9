use Rattle.std.proofs.Common.{[], ap, arith, length, sym}
use Rattle.pm_raw.proofs.WordLaws.{runs-none, runs-same, word-same}
use Rattle.pm_raw.proofs.runs.Runs.new.Goals as goal

pub invariant_of-result : goal.invariant_of-result
invariant_of-result c = record {
  are = runs-same [] [] _ _ c.in_ok-firsts.ensures.items c.in_ok-starts.ensures.items 0 0 runs-none;
  next = sym (word-same [] [] _ _ c.in_ok-firsts.ensures.items c.in_ok-starts.ensures.items 0);
  few = omega (arith, ap length c.in_ok-firsts.ensures.items);
  counted = omega arith;
  firsts_room = c.in_ok-firsts.ensures.capacity;
  starts_room = c.in_ok-starts.ensures.capacity;
}
