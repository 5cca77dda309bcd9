-- Entries in the order of their hashes, then of their names: equal names are neighbours.
use Rattle.std.proofs.Common.{◌≡◌, ℕ, suc, ◌-◌, ◌<◌, ◌≤◌, List, ◌∷◌, length, slice_index, slice_index_or, sym, ◌∙◌, ap, ap₂, arith}
use Rattle.std.specs.List.{All}
use Rattle.std.specs.List.Sorted.{IsSortedBy}
use Rattle.std.proofs.lemmas.List.{get_or-map, length-map}
use Rattle.bp_layout.specs.Words.{Image}
use Rattle.bp_spelling.specs.declared.entry.Spelled.{Spelled}
use Rattle.bp_spelling.specs.Places.{name_key, HaveOwnNames, IsDouble}
use Rattle.bp_spelling.specs.Hashes.{IsSpelled, place_of, places_of, spelled_key, spelled_lt}
use Rattle.bp_spelling.proofs.HashLaws.{same_hash}
use Rattle.bp_spelling.proofs.NameOrder.{apart_from_neighbours}

-- what is read past the end of a list
abbrev pub blank : Spelled
blank = record { hash = 0; number = 0 }

pub place-at : (entries : List Spelled) (k : ℕ) → k < length entries → slice_index (places_of entries) k ≡ place_of (slice_index_or entries k blank)
place-at entries k low = get_or-map place_of entries k blank 0 low

pub length-places : (entries : List Spelled) → length (places_of entries) ≡ length entries
length-places entries = length-map entries place_of

module _ (image : Image) (entries : List Spelled) where
  -- where no neighbours have one key, no two have one name
  pub entries_apart : All (IsSpelled image) entries → IsSortedBy (spelled_lt image) entries →
      ((k : ℕ) → suc k < length entries → spelled_key image (slice_index_or entries k blank) ≡ spelled_key image (slice_index_or entries (suc k) blank) → ⊥) →
      HaveOwnNames image (places_of entries)
  entries_apart exact sorted beside i j order high same =
      let low : j < length entries = rw (length-places entries) at high in
      let before : i < length entries = omega (arith, order, low) in
      let names : name_key image (place_of (slice_index_or entries i blank)) ≡ name_key image (place_of (slice_index_or entries j blank)) =
      ap (name_key image) (sym (place-at entries i before)) ∙ same ∙ ap (name_key image) (place-at entries j low) in
      let hashes : (slice_index_or entries i blank).hash ≡ (slice_index_or entries j blank).hash =
      exact i blank before ∙ same_hash image _ _ names ∙ sym (exact j blank low) in
      apart_from_neighbours (spelled_key image) entries blank sorted beside i j order low (ap₂ (λ (h : ℕ) (n : List ℕ). h ∷ n) hashes names)

  tail : (x y : ℕ) (xs ys : List ℕ) → x ∷ xs ≡ y ∷ ys → xs ≡ ys
  tail x y xs ys same = cc

  -- neighbours with one key have one name
  pub double_at : (i : ℕ) → 1 ≤ i → i < length entries → spelled_key image (slice_index_or entries (i - 1) blank) ≡ spelled_key image (slice_index_or entries i blank) →
      IsDouble image (places_of entries) (place_of (slice_index_or entries i blank))
  double_at i some low same = record {
    first = i - 1;
    second = i;
    order = omega (arith, some);
    low = rw (length-places entries) low;
    there = place-at entries i low;
    same =
        ap (name_key image) (place-at entries (i - 1) (omega (arith, low))) ∙ tail _ _ _ _ same ∙ sym (ap (name_key image) (place-at entries i low));
  }
