-- Lists that grow by one at the end.
use Rattle.std.proofs.Common.{◌≡◌, ◌≢◌, set, ℕ, zero, suc, ◌<◌, ◌≤◌, ◌⊎◌, inl, inr, Some, List, [], ◌∷◌, ◌++◌, length, get_or, refl, ◌∙◌, ap, arith}
use Rattle.std.specs.List.{slice_get}
use Rattle.std.proofs.lemmas.Bool.{cases_eq}
use Rattle.std.proofs.lemmas.List.{get_or-set_same, get_or-set_other}

pub get_pushed : {A : Type 0} (xs : List A) (y : A) (k : ℕ) (z : A) → slice_get (xs ++ y ∷ []) k ≡ Some z → (slice_get xs k ≡ Some z) ⊎ ((k ≡ length xs) × (y ≡ z))
get_pushed [] y zero z is = inr (refl, cc)
get_pushed [] y (suc k) z is = cc
get_pushed (x ∷ xs) y zero z is = inl is
get_pushed (x ∷ xs) y (suc k) z is = elim (get_pushed xs y k z is) [
  | inl old ↦ inl old
  | inr new ↦ inr ((let at = new.0 in omega arith), new.1)
]

pub get_pushed_old : {A : Type 0} (xs : List A) (y : A) (k : ℕ) (z : A) → slice_get xs k ≡ Some z → slice_get (xs ++ y ∷ []) k ≡ Some z
get_pushed_old [] y k z is = cc
get_pushed_old (x ∷ xs) y zero z is = is
get_pushed_old (x ∷ xs) y (suc k) z is = get_pushed_old xs y k z is

pub get_pushed_new : {A : Type 0} (xs : List A) (y : A) → slice_get (xs ++ y ∷ []) (length xs) ≡ Some y
get_pushed_new [] y = refl
get_pushed_new (x ∷ xs) y = get_pushed_new xs y

pub get_before : {A : Type 0} (xs : List A) (y : A) (k : ℕ) → k < length xs → slice_get (xs ++ y ∷ []) k ≡ slice_get xs k
get_before [] y k low = absurd (omega arith)
get_before (x ∷ xs) y zero low = refl
get_before (x ∷ xs) y (suc k) low = get_before xs y k (omega arith)

pub index_before : (xs : List ℕ) (y k : ℕ) → k < length xs → get_or (xs ++ y ∷ []) k 0 ≡ get_or xs k 0
index_before [] y k low = absurd (omega arith)
index_before (x ∷ xs) y zero low = refl
index_before (x ∷ xs) y (suc k) low = index_before xs y k (omega arith)

pub index_new : (xs : List ℕ) (y : ℕ) → get_or (xs ++ y ∷ []) (length xs) 0 ≡ y
index_new [] y = refl
index_new (x ∷ xs) y = index_new xs y

pub index_past : (xs : List ℕ) (k : ℕ) → length xs ≤ k → get_or xs k 0 ≡ 0
index_past [] k high = refl
index_past (x ∷ xs) zero high = absurd (omega arith)
index_past (x ∷ xs) (suc k) high = index_past xs k (omega arith)

pub get_within : {A : Type 0} (xs : List A) (k : ℕ) (x : A) → slice_get xs k ≡ Some x → k < length xs
get_within [] k x is = cc
get_within (y ∷ xs) zero x is = omega arith
get_within (y ∷ xs) (suc k) x is = let low = get_within xs k x is in omega arith

pub set_either : (xs : List ℕ) (i v j : ℕ) → i < length xs → ((j ≡ i) × (get_or (set xs i v) j 0 ≡ v)) ⊎ ((j ≢ i) × (get_or (set xs i v) j 0 ≡ get_or xs j 0))
set_either xs i v j low = elim (cases_eq j i) [
  | inl same ↦ inl (same, ap (λ n. get_or (set xs i v) n 0) same ∙ get_or-set_same xs i v 0 low)
  | inr differ ↦ inr (differ, get_or-set_other xs i j v 0 differ)
]
