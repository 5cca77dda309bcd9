-- A text split at a byte.
use Rattle.std.proofs.Common.{◌≡◌, ℕ, zero, suc, ◌+◌, ◌-◌, ◌<◌, ◌≤◌, nat_lt, List, [], ◌∷◌, length, get_or, take, drop, Bool, true, false, Option, Some, None, refl, sym, ◌∙◌, ap, arith, length-drop, add-one}
use Rattle.std.proofs.lemmas.List.{take_all}
use Rattle.std.proofs.lemmas.List.Quantifiers.{position-Some}
use Rattle.std.proofs.lemmas.List.Sums.{fails_before_first}
use Rattle.std.proofs.lemmas.Iterator.Adapters.{position_from-zero}
use Rattle.std.specs.List.{slice_split, onto_first, position, position_from, position_or_len}
use Rattle.std.proofs.lemmas.Bool.{ltb-false}

module _ (p : ℕ → Bool) where
  split_none : (xs : List ℕ) (i : ℕ) → position_from p i xs ≡ None → slice_split p xs ≡ xs ∷ []
  split_none [] i e = refl
  split_none (x ∷ xs) i e = go (p x) refl (λ f. split_none xs (i + 1) f)
    where
      go : (b : Bool) → p x ≡ b → (position_from p (i + 1) xs ≡ None → slice_split p xs ≡ xs ∷ []) → slice_split p (x ∷ xs) ≡ (x ∷ xs) ∷ []
      go true at rest = let some : ◌≡◌ {A = Option ℕ} (Some i) None = rw at at e in absurd (cc)
      go false at rest = rw at (ap (onto_first x) (rest (rw at at e)))

  split_some : (xs : List ℕ) (i : ℕ) → i < length xs → p (get_or xs i 0) ≡ true → ((k : ℕ) → k < i → p (get_or xs k 0) ≡ false) → slice_split p xs ≡ take i xs ∷ slice_split p (drop (suc i) xs)
  split_some [] i low passes before = absurd (omega (arith, low))
  split_some (x ∷ xs) zero low passes before = let here : p x ≡ true = passes in rw here refl
  split_some (x ∷ xs) (suc i) low passes before =
      let here : p x ≡ false = before 0 (omega arith) in
      rw here (ap (onto_first x) (split_some xs i (omega (arith, low)) passes (λ k below. before (suc k) (omega (arith, below)))))

  pub slice_split-none : (xs : List ℕ) → position p xs ≡ None → slice_split p xs ≡ xs ∷ []
  slice_split-none xs e = split_none xs 0 (sym (position_from-zero p xs) ∙ e)

  -- with what follows as a program cuts it
  pub slice_split-some : (xs : List ℕ) (i : ℕ) → position p xs ≡ Some i → slice_split p xs ≡ take i xs ∷ slice_split p (take (length xs - (i + 1)) (drop (i + 1) xs))
  slice_split-some xs i e =
      let found = position-Some p xs i 0 e in
      let whole : take (length xs - (i + 1)) (drop (i + 1) xs) ≡ drop (suc i) xs =
      take_all (length xs - (i + 1)) (drop (i + 1) xs) (omega (arith, length-drop (i + 1) xs)) ∙ ap (λ n. drop n xs) (add-one i) in
      rw whole (split_some xs i found.0 found.1 found.2)

  -- no text splits into no parts
  pub slice_split-cons : (xs : List ℕ) → (first : List ℕ) × (rest : List (List ℕ)) × (slice_split p xs ≡ first ∷ rest)
  slice_split-cons [] = ([], [], refl)
  slice_split-cons (x ∷ xs) = go (p x) refl (slice_split-cons xs)
    where
      go : (b : Bool) → p x ≡ b → (first : List ℕ) × (rest : List (List ℕ)) × (slice_split p xs ≡ first ∷ rest) → (first : List ℕ) × (rest : List (List ℕ)) × (slice_split p (x ∷ xs) ≡ first ∷ rest)
      go true at parts = ([], slice_split p xs, rw at refl)
      go false at parts = (x ∷ parts.0, parts.1, rw at (ap (onto_first x) parts.2))

  pub no_place : (xs : List ℕ) → position p xs ≡ None → (k : ℕ) → k < length xs → p (get_or xs k 0) ≡ false
  no_place xs none k low = fails_before_first p xs k 0 (omega (arith, low, all_before (nat_lt (position_or_len p xs) (length xs)) refl))
    where
      all_before : (t : Bool) → nat_lt (position_or_len p xs) (length xs) ≡ t → length xs ≤ position_or_len p xs
      all_before true at = let some : ◌≡◌ {A = Option ℕ} (Some (position_or_len p xs)) None = rw at at none in absurd (cc)
      all_before false at = ltb-false _ _ at
