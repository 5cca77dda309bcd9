use Rattle.std.proofs.Common.{ℕ, ◌≤◌}
use Rattle.std.specs.Prelude.{◌↔◌}
use Rattle.bp_cow.proofs.AlikeEnds.{FirstAlike}
use Rattle.bp_cow.proofs.touched.Touched.alike.Given as goal

abbrev pub invariant-loop-i : goal.invariant-loop-i
invariant-loop-i l = (n : ℕ) → (n ≤ l.alike) ↔ FirstAlike l.self l.i n
