-- One more slot of a walk over the entries.
use Rattle.std.proofs.Common.{◌≡◌, ◌≢◌, ◌⊎◌, ℕ, ◌+◌, ◌-◌, ◌<◌, ◌≤◌, suc, List, [], ◌∷◌, ◌++◌, length, take, sym, ◌∙◌, ap, subst, arith, inl, inr, append_assoc}
use Rattle.std.specs.List.{range_with_len, All}
use Rattle.std.proofs.Math.ListN.{set}
use Rattle.std.proofs.lemmas.Bool.{cases_eq}
use Rattle.std.proofs.lemmas.List.{map-append, take_more_set}
use Rattle.std.proofs.lemmas.List.Elements.{All-push}
use Rattle.bp_layout.specs.Words.{Image}
use Rattle.bp_layout.specs.Directory.{ino_in, name_in}
use Rattle.bp_layout.specs.Paths.{IsName}
use Rattle.bp_spelling.specs.Gathered.{IsGathered}
use Rattle.bp_spelling.specs.Names.{entry_place_in}
use Rattle.bp_spelling.specs.declared.entry.Spelled.{Spelled}
use Rattle.bp_spelling.specs.Hashes.{IsSpelled, place_of, places_of}
use Rattle.bp_spelling.specs.Places.{used_places}
use Rattle.bp_spelling.specs.Tables.{IsPresent}
use Rattle.bp_spelling.proofs.UsedPlaces.{empty_slot, used_slot}

next_slot : (slot end : ℕ) → slot < end → range_with_len slot (end - slot) ≡ slot ∷ range_with_len (slot + 1) (end - (slot + 1))
next_slot slot end below = let n : end - slot ≡ suc (end - (slot + 1)) = omega (arith, below) in ap (range_with_len slot) n

module _ (image : Image) (root end : ℕ) (entries : List Spelled) where
  more_forms : (slot : ℕ) → ((k : ℕ) → k < slot → ino_in image root k ≢ 0 → IsName (name_in image root k)) → (ino_in image root slot ≢ 0 → IsName (name_in image root slot)) →
      (k : ℕ) → k < slot + 1 → ino_in image root k ≢ 0 → IsName (name_in image root k)
  more_forms slot before here k low some = go (cases_eq k slot)
    where
      go : (k ≡ slot) ⊎ (k ≡ slot → ⊥) → IsName (name_in image root k)
      go (inl same) = subst (λ (s : ℕ). IsName (name_in image root s)) (sym same) (here (λ none. some (ap (ino_in image root) same ∙ none)))
      go (inr other) = before k (omega (arith, low, other)) some

  pub gathered_empty : (slot count : ℕ) → slot < end → IsGathered image root end slot entries count → ino_in image root slot ≡ 0 →
      IsGathered image root end (slot + 1) entries count
  gathered_empty slot count below is none = record {
    few = omega (arith, is.few);
    gathered =
        ap (λ xs. places_of (take count entries) ++ xs) (sym (ap (used_places image root) (next_slot slot end below) ∙ empty_slot image root slot (range_with_len (slot + 1) (end - (slot + 1))) none))
        ∙ is.gathered;
    hashed = is.hashed;
    present = is.present;
    forms = more_forms slot is.forms (λ some. absurd (some none));
  }

  pub gathered_more : (slot count : ℕ) (entry : Spelled) → slot < end → end ≤ length entries → IsGathered image root end slot entries count → ino_in image root slot ≢ 0 → IsName (name_in image root slot) →
      place_of entry ≡ entry_place_in image root slot → IsSpelled image entry → IsPresent entry → IsGathered image root end (slot + 1) (set entries count entry) (count + 1)
  gathered_more slot count entry below room is some form there spelled present =
      let rest : List ℕ = used_places image root (range_with_len (slot + 1) (end - (slot + 1))) in
      let inside : count < length entries = omega (arith, is.few, below, room) in
      record {
        few = omega (arith, is.few);
        gathered =
            ap (λ xs. places_of xs ++ rest) (take_more_set entries count entry inside)
            ∙ ap (λ xs. xs ++ rest) (map-append place_of (take count entries) (entry ∷ []))
            ∙ append_assoc (places_of (take count entries)) (place_of entry ∷ []) rest
            ∙ ap (λ (p : ℕ). places_of (take count entries) ++ (p ∷ rest)) there
            ∙ ap (λ xs. places_of (take count entries) ++ xs) (sym (ap (used_places image root) (next_slot slot end below) ∙ used_slot image root slot (range_with_len (slot + 1) (end - (slot + 1))) some))
            ∙ is.gathered;
        hashed = subst (All (IsSpelled image)) (sym (take_more_set entries count entry inside)) (All-push (IsSpelled image) (take count entries) entry is.hashed spelled);
        present = subst (All IsPresent) (sym (take_more_set entries count entry inside)) (All-push IsPresent (take count entries) entry is.present present);
        forms = more_forms slot is.forms (λ also. form);
      }
