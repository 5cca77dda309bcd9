-- What holds of the first of some words holds of these alone.
use Rattle.std.proofs.Common.{◌≡◌, ℕ, ◌<◌, ◌≤◌, List, length, take, slice_index, sym, subst, arith}
use Rattle.std.proofs.lemmas.List.{get_or-take, length-take-le}

module _ (xs : List ℕ) (whole : ℕ) (low : whole ≤ length xs) (P : ℕ → Type 0) where
  long : length (take whole xs) ≡ whole
  long = length-take-le whole xs low

  pub of_taken : ((i : ℕ) → i < length (take whole xs) → P (slice_index (take whole xs) i)) → (i : ℕ) → i < whole → P (slice_index xs i)
  of_taken all i inside = subst P (get_or-take whole xs i 0 inside) (all i (omega (arith, inside, long)))

  pub to_taken : ((i : ℕ) → i < whole → P (slice_index xs i)) → (i : ℕ) → i < length (take whole xs) → P (slice_index (take whole xs) i)
  to_taken all i inside =
      let below : i < whole = omega (arith, inside, long) in
      subst P (sym (get_or-take whole xs i 0 below)) (all i below)
