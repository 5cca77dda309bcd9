-- What a sort of the places describes the names.
use Rattle.std.proofs.Common.{◌≡◌, ◌≢◌, ◌⊎◌, ℕ, ◌+◌, ◌/◌, ◌<◌, ◌≤◌, List, length, slice_index, Bool, true, false, eqb, refl, sym, ◌∙◌, ap, subst, arith, inl, inr, ⊎_elim}
use Rattle.std.specs.List.{Contains, All, AllPairs}
use Rattle.std.specs.List.Sorted.{IsPermutation}
use Rattle.std.proofs.lemmas.Bool.{cases_eq, cases_lt, eqb-true, eqb-false}
use Rattle.std.proofs.lemmas.Bool.Decides.{Decides-eqb}
use Rattle.std.proofs.lemmas.Grind.{get_or_default_zero}
use Rattle.std.proofs.lemmas.List.Sorted.{All-permutation, Contains-permutation}
use Rattle.std.proofs.lemmas.Map.Keys.{IsDistinct-IsPermutation}
use Rattle.std.proofs.lemmas.Map.Made.{AllPairs-from_IsDistinct, IsDistinct-from_AllPairs}
use Rattle.bp_layout.specs.Words.{Image, word}
use Rattle.bp_layout.specs.Tree.{IsSound, IsFull}
use Rattle.bp_layout.specs.Directory.{name_in, slots}
use Rattle.bp_spelling.specs.Names.{IsUsed, AreNames, AreWrong, entry_place_in}
use Rattle.bp_spelling.specs.Names.AreWrong.{twice}
use Rattle.bp_spelling.specs.declared.fault.NameFault.TheVariants.{Twice}
use Rattle.bp_spelling.specs.Places.{used_places, HaveForms, HaveOwnNames, IsDouble, name_key, name_there}
use Rattle.bp_spelling.proofs.EntryPlaces.{other_place, name-there, name-short, word-there}
use Rattle.bp_spelling.proofs.KeyNames.{same_name, key_of_name}
use Rattle.bp_spelling.proofs.UsedPlaces.{IsAmong, all_among, place_among, all_apart}

eqb-comm : (x y : ℕ) → eqb x y ≡ eqb y x
eqb-comm x y = go (eqb x y) (eqb y x) refl refl
  where
    go : (b d : Bool) → eqb x y ≡ b → eqb y x ≡ d → eqb x y ≡ eqb y x
    go true true at on = at ∙ sym on
    go true false at on = absurd (eqb-false _ _ on (sym (eqb-true _ _ at)))
    go false true at on = absurd (eqb-false _ _ at (sym (eqb-true _ _ on)))
    go false false at on = at ∙ sym on

module _ (image : Image) (root size : ℕ) (sound : IsSound image root size) (full : IsFull image root size) (forms : HaveForms image root size) where
  at_place : (slot : ℕ) → IsUsed image root size slot → name_in image root slot ≡ name_there image (entry_place_in image root slot)
  at_place slot used = name-there image root size slot full used.live (name-short image root size slot full used.live (forms slot used))

  same_keys : (slot other : ℕ) → IsUsed image root size slot → IsUsed image root size other → name_in image root slot ≡ name_in image root other →
      name_key image (entry_place_in image root slot) ≡ name_key image (entry_place_in image root other)
  same_keys slot other used used_too same =
      key_of_name image (entry_place_in image root slot) (entry_place_in image root other) (sym (at_place slot used) ∙ same ∙ at_place other used_too)

  same_names : (slot other : ℕ) → IsUsed image root size slot → IsUsed image root size other →
      name_key image (entry_place_in image root slot) ≡ name_key image (entry_place_in image root other) → name_in image root slot ≡ name_in image root other
  same_names slot other used used_too same =
      let short : word image (entry_place_in image root slot + 1) ≤ 240 =
      omega (arith, name-short image root size slot full used.live (forms slot used), word-there image root size slot full used.live 1 (omega arith)) in
      at_place slot used ∙ same_name image (entry_place_in image root slot) (entry_place_in image root other) short same ∙ sym (at_place other used_too)

  module _ (before after : List ℕ) (is : before ≡ used_places image root (slots size)) (order : IsPermutation before after) where
    found : (slot : ℕ) → IsUsed image root size slot → Contains after (entry_place_in image root slot)
    found slot used =
        Contains-permutation before after (entry_place_in image root slot) order
        (subst (λ (xs : List ℕ). Contains xs (entry_place_in image root slot)) (sym is) (place_among image root 0 (size / 256) slot (omega arith) (omega (arith, used.live)) used.some))

    among : All (IsAmong image root 0 (size / 256)) after
    among = All-permutation (IsAmong image root 0 (size / 256)) before after order (subst (All (IsAmong image root 0 (size / 256))) (sym is) (all_among image root 0 (size / 256)))

    used_at : (k : ℕ) (low : k < length after) → IsUsed image root size (among k 0 low).slot
    used_at k low = record { live = omega (arith, (among k 0 low).high); some = (among k 0 low).some }

    apart : AllPairs (λ (x y : ℕ). x ≢ y) after
    apart =
        let first : AllPairs (λ (x y : ℕ). x ≢ y) before =
        subst (AllPairs (λ (x y : ℕ). x ≢ y)) (sym is) (all_apart image root size 0 (size / 256) sound full (omega arith)) in
        AllPairs-from_IsDistinct Decides-eqb after (IsDistinct-IsPermutation eqb eqb-comm before after order (IsDistinct-from_AllPairs Decides-eqb before first))

    -- no two keys of places are equal, so no two names are
    pub no_doubles : HaveOwnNames image after → AreNames image root size
    no_doubles differ = record { forms = forms; differ = λ slot other used used_too same. go slot other used used_too same (cases_eq slot other) }
      where
        at : (slot : ℕ) (there : Contains after (entry_place_in image root slot)) → slice_index after there.0 ≡ entry_place_in image root slot
        at slot there = sym (get_or_default_zero after there.0 (entry_place_in image root slot) there.1) ∙ there.2

        never : (slot other : ℕ) → IsUsed image root size slot → IsUsed image root size other → name_in image root slot ≡ name_in image root other →
            (there : Contains after (entry_place_in image root slot)) (here : Contains after (entry_place_in image root other)) → there.0 < here.0 → ⊥
        never slot other used used_too same there here before =
            differ there.0 here.0 before here.1
            (ap (name_key image) (at slot there) ∙ same_keys slot other used used_too same ∙ sym (ap (name_key image) (at other here)))

        go : (slot other : ℕ) → IsUsed image root size slot → IsUsed image root size other → name_in image root slot ≡ name_in image root other →
            (slot ≡ other) ⊎ (slot ≡ other → ⊥) → slot ≡ other
        go slot other used used_too same (inl e) = e
        go slot other used used_too same (inr apart) =
            let there : Contains after (entry_place_in image root slot) = found slot used in
            let here : Contains after (entry_place_in image root other) = found other used_too in
            absurd (⊎_elim (never slot other used used_too same there here) (λ late.
            ⊎_elim (never other slot used_too used (sym same) here there) (λ early.
            let one : there.0 ≡ here.0 = omega (arith, late, early) in
            apart (other_place image root size slot other sound full used.live used_too.live (sym (at slot there) ∙ ap (slice_index after) one ∙ at other here)))
            (cases_lt here.0 there.0)) (cases_lt there.0 here.0))

    -- the entries of two places with equal keys have one name
    pub doubles : (place : ℕ) → IsDouble image after place → AreWrong image root size (Twice place)
    doubles place double =
        let low : double.first < length after = omega (arith, double.order, double.low) in
        let one : IsAmong image root 0 (size / 256) (slice_index after double.first) = among double.first 0 low in
        let two : IsAmong image root 0 (size / 256) (slice_index after double.second) = among double.second 0 double.low in
        let keys : name_key image (entry_place_in image root two.slot) ≡ name_key image (entry_place_in image root one.slot) =
        ap (name_key image) two.there ∙ sym double.same ∙ sym (ap (name_key image) one.there) in
        let differ : two.slot ≢ one.slot =
        λ same. apart double.first double.second 0 double.order double.low (sym one.there ∙ sym (ap (entry_place_in image root) same) ∙ two.there) in
        subst (λ (p : ℕ). AreWrong image root size (Twice p)) (two.there ∙ double.there)
        (twice (used_at double.second double.low) (used_at double.first low) differ (same_names two.slot one.slot (used_at double.second double.low) (used_at double.first low) keys))
