use Rattle.bp_cow.proofs.SharedLaws.{IsInside}
use Rattle.bp_cow.proofs.common_prefix.prefixes_below.Given as goal

abbrev pub invariant-loop-level : goal.invariant-loop-level
invariant-loop-level l = IsInside l.run l.leaves l.slots l.level l.number
