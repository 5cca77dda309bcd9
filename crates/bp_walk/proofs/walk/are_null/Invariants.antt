use Rattle.std.proofs.Common.{◌≡◌, ℕ, ◌<◌}
use Rattle.std.specs.List.{slice_index}
use Rattle.bp_walk.proofs.walk.are_null.Given as goal

abbrev pub invariant-loop-pointer : goal.invariant-loop-pointer
invariant-loop-pointer l = l.bits ≡ 0 → (i : ℕ) → i < l.pointer-index → slice_index l.pointers i ≡ 0
