-- What holds of all caches.
use Rattle.std.proofs.Common.{◌≡◌, ℕ, zero, suc, ◌<◌, ◌⊎◌, inl, inr, Bool, true, false, not, Option, Some, None, List, length, get_or, refl, sym, ◌∙◌, ap, arith}
use Rattle.std.specs.Prelude.{is_none}
use Rattle.std.specs.List.{slice_get}
use Rattle.std.proofs.lemmas.Bool.{cases_Bool, not-false}
use Rattle.std.proofs.lemmas.Option.{slice_get-get_or}
use Rattle.std.proofs.lemmas.List.FromFn.{length-map-range_with_len}
use Rattle.pm_cores.specs.declared.entry.Entry.{Entry}
use Rattle.pm_cores.specs.declared.entry.Entry.TheVariants.{Store}
use Rattle.pm_cores.specs.declared.entry.Owner.{Owner}
use Rattle.pm_cores.specs.Log.{IsStore}
use Rattle.pm_cores.specs.Caches.{Caches}
use Rattle.pm_cores.specs.Order.{IsLastStore, HasGoneBack, IsCoherent}
use Rattle.pm_cores.specs.Inside.{waits_at, owner_since, owners_of, flags_of, entry_is_back, caches_by, Waits, AreSound}
use Rattle.pm_cores.proofs.Lists.{get_within}
use Rattle.pm_cores.proofs.Waiting.{waits_from, first_waits, owner_of_waiting, held}
use Rattle.pm_cores.proofs.Views.{owner_seen, length-owners, under_seen, under_waits, one_owner, get_map_range}

module _ (cores : ℕ) (words : ℕ) (since : List ℕ) (log : List Entry) (epochs : List ℕ) (capacity : ℕ) (sound : AreSound words since log epochs) where
  abbrev caches : Caches
  caches = caches_by cores words since log epochs capacity

  pub flag_store : (place core word : ℕ) → IsStore log place core word → slice_get (flags_of since log) place ≡ Some (not (waits_at (get_or since word 0) place))
  flag_store place core word store =
      let low : place < length log = get_within log place (Store core word store.value) store.is in
      let flags : List Bool = flags_of since log in
      let size : length flags ≡ length log = length-map-range_with_len (λ at. entry_is_back since at (slice_get log at)) 0 (length log) in
      slice_get-get_or flags place false (omega arith)
      ∙ ap (λ (b : Bool). Some b) (get_map_range (λ at. entry_is_back since at (slice_get log at)) (length log) place false low)
      ∙ ap (λ e. Some (entry_is_back since place e)) store.is

  waits_by : (place core word : ℕ) → IsStore log place core word → slice_get (flags_of since log) place ≡ Some false → Waits since log place core word
  waits_by place core word store flag =
      let both : Some (not (waits_at (get_or since word 0) place)) ≡ Some false = sym (flag_store place core word store) ∙ flag in
      let one : not (waits_at (get_or since word 0) place) ≡ false = cc in
      record { store = store; waits = not-false (waits_at (get_or since word 0) place) one }

  back_or : (place core word : ℕ) → IsStore log place core word → HasGoneBack caches place ⊎ Waits since log place core word
  back_or place core word store = elim (cases_Bool (waits_at (get_or since word 0) place)) [
    | inl waits ↦ inr (record { store = store; waits = waits })
    | inr back ↦ inl (flag_store place core word store ∙ ap (λ b. Some (not b)) back)
  ]

  not_both : (place core word : ℕ) → HasGoneBack caches place → Waits since log place core word → ⊥
  not_both place core word back waits =
      let both : Some true ≡ Some false = sym back ∙ flag_store place core word waits.store ∙ ap (λ b. Some (not b)) waits.waits in
      cc

  last_at : (number place core word : ℕ) → get_or since word 0 ≡ number → IsLastStore log place core word → slice_get (flags_of since log) place ≡ Some (is_none (get_or (owners_of since log epochs) word None))
  last_at zero place core word is last =
      flag_store place core word last.store ∙ ap (λ n. Some (not (waits_at n place))) is
      ∙ ap (λ (o : Option Owner). Some (is_none o)) (sym (owner_seen since log epochs word ∙ ap (owner_since log epochs) is))
  last_at (suc first) place core word is last =
      let store = sound.first word first is in
      let low = last.last first store.0 store.1 in
      let here = first_waits since log word first store.0 is store.1 in
      let waits = waits_from (get_or since word 0) first place is low in
      let owner = owner_of_waiting words since log epochs sound first store.0 word here in
      flag_store place core word last.store ∙ ap (λ b. Some (not b)) waits
      ∙ ap (λ (o : Option Owner). Some (is_none o)) (sym (owner_seen since log epochs word ∙ owner))

  pub coherent : IsCoherent caches
  coherent = record {
    owners = length-owners since log epochs ∙ sound.as_many_since;
    flags = length-map-range_with_len (λ at. entry_is_back since at (slice_get log at)) 0 (length log);
    last = λ place core word last. last_at (get_or since word 0) place core word refl last;
    dirty = λ word owner under.
        let its = held words since log epochs sound word owner (under_seen since log epochs word owner under) in
        (its.first, its.waits.store, its.epoch, flag_store its.first owner.core word its.waits.store ∙ ap (λ b. Some (not b)) its.waits.waits);
    waiting = λ place core word store flag. under_waits words since log epochs sound core word place core word (waits_by place core word store flag);
    line = λ one two owner its under its_under same. one_owner words since log epochs sound one two owner its (under_seen since log epochs one owner under) (under_seen since log epochs two its its_under) same;
    epochs = λ place core word other its_word store its_store less back. elim (back_or place core word store) [
      | inl is ↦ is
      | inr waits ↦ absurd (not_both other core its_word back (record { store = its_store; waits = sound.in_order place core word other its_word waits its_store less }))
    ];
    follows = λ earlier later it back. elim (back_or earlier it.core it.word it.first) [
      | inl is ↦ is
      | inr waits ↦ absurd (it.differ (sound.alone earlier it.core it.word it.use_place it.its_core waits it.following it.used))
    ];
  }
