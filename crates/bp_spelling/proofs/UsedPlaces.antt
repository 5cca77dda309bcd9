-- The places of the entries that name an inode.
use Rattle.std.proofs.Common.{◌≡◌, ◌≢◌, ◌⊎◌, ℕ, zero, suc, ◌+◌, ◌/◌, ◌<◌, ◌≤◌, List, ◌∷◌, slice_index_or, Bool, true, false, ◌==◌, refl, sym, ◌∙◌, ap, subst, arith, inl, inr}
use Rattle.std.specs.List.{range_with_len, Contains, All, AllPairs}
use Rattle.std.proofs.lemmas.Bool.{eqb-true, cases_eq}
use Rattle.std.proofs.lemmas.List.Elements.{All-cons}
use Rattle.std.proofs.lemmas.List.Kept.{AllPairs-cons}
use Rattle.bp_layout.specs.Words.{Image}
use Rattle.bp_layout.specs.Tree.{IsSound, IsFull}
use Rattle.bp_layout.specs.Directory.{ino_in}
use Rattle.bp_spelling.specs.Names.{entry_place_in}
use Rattle.bp_spelling.specs.Places.{used_places}
use Rattle.bp_spelling.proofs.EntryPlaces.{other_place}

-- an entry of one of these slots names an inode and stands at this place
pub record IsAmong (image : Image) (root from count place : ℕ) : Type 0 where
  pub slot : ℕ
  pub low : from ≤ slot
  pub high : slot < from + count
  pub some : ino_in image root slot ≢ 0
  pub there : entry_place_in image root slot ≡ place

module _ (image : Image) (root : ℕ) where
  pub empty_slot : (slot : ℕ) (more : List ℕ) → ino_in image root slot ≡ 0 → used_places image root (slot ∷ more) ≡ used_places image root more
  empty_slot slot more none = rw none refl

  pub used_slot : (slot : ℕ) (more : List ℕ) → ino_in image root slot ≢ 0 → used_places image root (slot ∷ more) ≡ entry_place_in image root slot ∷ used_places image root more
  used_slot slot more some = go (ino_in image root slot == 0) refl
    where
      go : (b : Bool) → (ino_in image root slot == 0) ≡ b → used_places image root (slot ∷ more) ≡ entry_place_in image root slot ∷ used_places image root more
      go true at = absurd (some (eqb-true _ _ at))
      go false at = rw at refl

  -- what holds of the places after a slot, and of the slot's place where it has one, holds from the slot on
  one_more : (P : List ℕ → Type 0) (from count : ℕ) → (ino_in image root from ≡ 0 → P (used_places image root (range_with_len (from + 1) count))) →
      (ino_in image root from ≢ 0 → P (entry_place_in image root from ∷ used_places image root (range_with_len (from + 1) count))) →
      P (used_places image root (range_with_len from (suc count)))
  one_more P from count empty some = go (cases_eq (ino_in image root from) 0)
    where
      go : (ino_in image root from ≡ 0) ⊎ (ino_in image root from ≡ 0 → ⊥) → P (used_places image root (range_with_len from (suc count)))
      go (inl none) = subst P (sym (empty_slot from (range_with_len (from + 1) count) none)) (empty none)
      go (inr used) = subst P (sym (used_slot from (range_with_len (from + 1) count) used)) (some used)

  later : (from count place : ℕ) → IsAmong image root (from + 1) count place → IsAmong image root from (suc count) place
  later from count place is = record { slot = is.slot; low = omega (arith, is.low); high = omega (arith, is.high); some = is.some; there = is.there }

  -- each of the places is that of an entry
  pub all_among : (from count : ℕ) → All (IsAmong image root from count) (used_places image root (range_with_len from count))
  all_among from zero = λ k d low. absurd (omega (arith, low))
  all_among from (suc count) =
      let rest : All (IsAmong image root from (suc count)) (used_places image root (range_with_len (from + 1) count)) =
      λ k d low. later from count _ (all_among (from + 1) count k d low) in
      one_more (All (IsAmong image root from (suc count))) from count (λ none. rest) (λ some.
      All-cons (IsAmong image root from (suc count)) (entry_place_in image root from) (used_places image root (range_with_len (from + 1) count))
      (record { slot = from; low = omega arith; high = omega arith; some = some; there = refl }) rest)

  beyond : (x p : ℕ) (xs : List ℕ) → Contains xs x → Contains (p ∷ xs) x
  beyond x p xs (k, low, is) = (suc k, omega (arith, low), is)

  at_head : (x p : ℕ) (xs : List ℕ) → p ≡ x → Contains (p ∷ xs) x
  at_head x p xs is = (0, omega arith, is)

  -- the place of each entry is among them
  pub place_among : (from count slot : ℕ) → from ≤ slot → slot < from + count → ino_in image root slot ≢ 0 →
      Contains (used_places image root (range_with_len from count)) (entry_place_in image root slot)
  place_among from zero slot low high some = absurd (omega (arith, low, high))
  place_among from (suc count) slot low high some = go (λ l h. place_among (from + 1) count slot l h some) (cases_eq from slot)
    where
      go : (from + 1 ≤ slot → slot < from + 1 + count → Contains (used_places image root (range_with_len (from + 1) count)) (entry_place_in image root slot)) →
          (from ≡ slot) ⊎ (from ≡ slot → ⊥) → Contains (used_places image root (range_with_len from (suc count))) (entry_place_in image root slot)
      go rest (inl here) =
          one_more (λ xs. Contains xs (entry_place_in image root slot)) from count (λ none. absurd (some (ap (ino_in image root) (sym here) ∙ none))) (λ used.
          at_head (entry_place_in image root slot) (entry_place_in image root from) (used_places image root (range_with_len (from + 1) count)) (ap (entry_place_in image root) here))
      go rest (inr before) =
          let there : Contains (used_places image root (range_with_len (from + 1) count)) (entry_place_in image root slot) =
          rest (omega (arith, low, before)) (omega (arith, high)) in
          one_more (λ xs. Contains xs (entry_place_in image root slot)) from count (λ none. there) (λ used.
          beyond (entry_place_in image root slot) (entry_place_in image root from) (used_places image root (range_with_len (from + 1) count)) there)

-- no two of the places are the same
pub all_apart : (image : Image) (root size from count : ℕ) → IsSound image root size → IsFull image root size → from + count ≤ size / 256 →
    AllPairs (λ (x y : ℕ). x ≢ y) (used_places image root (range_with_len from count))
all_apart image root size from zero sound full end = λ i j d order low. absurd (omega (arith, low))
all_apart image root size from (suc count) sound full end =
    let rest : AllPairs (λ (x y : ℕ). x ≢ y) (used_places image root (range_with_len (from + 1) count)) =
    all_apart image root size (from + 1) count sound full (omega (arith, end)) in
    one_more image root (AllPairs (λ (x y : ℕ). x ≢ y)) from count (λ none. rest) (λ some.
    AllPairs-cons (λ (x y : ℕ). x ≢ y) (entry_place_in image root from) (used_places image root (range_with_len (from + 1) count)) (λ k d low same.
    let other : IsAmong image root (from + 1) count (slice_index_or (used_places image root (range_with_len (from + 1) count)) k d) = all_among image root (from + 1) count k d low in
    let slot : from ≡ other.slot = other_place image root size from other.slot sound full (omega (arith, end)) (omega (arith, other.high, end)) (same ∙ sym other.there) in
    absurd (omega (arith, slot, other.low))) rest)
