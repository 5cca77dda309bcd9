use Rattle.std.proofs.Common.{◌≡◌, ℕ, ◌<◌, ◌≤◌}
use Rattle.std.specs.List.{slice_index}
use Rattle.bp_cow.proofs.copies.are_same.Given as goal

abbrev pub invariant-loop-i : goal.invariant-loop-i
invariant-loop-i l = record {
  few : l.same ≤ l.i;
  all : l.same ≡ l.i → (k : ℕ) → k < l.i → slice_index l.these k ≡ slice_index l.those k;
}
