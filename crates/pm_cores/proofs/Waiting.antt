-- Stores that wait, and whose the words are.
use Rattle.std.proofs.Common.{◌≡◌, ℕ, zero, suc, ◌≤◌, true, Some, List, get_or, refl, sym, ◌∙◌, ap, arith}
use Rattle.std.specs.List.{slice_get}
use Rattle.std.proofs.lemmas.Bool.{leb-true, le-leb}
use Rattle.pm_cores.specs.declared.entry.Entry.{Entry}
use Rattle.pm_cores.specs.declared.entry.Entry.TheVariants.{Store}
use Rattle.pm_cores.specs.declared.entry.Owner.{Owner}
use Rattle.pm_cores.specs.Log.{epoch_at, IsStore}
use Rattle.pm_cores.specs.Inside.{waits_at, owner_by, owner_since, Waits, AreSound}

pub record Since (since place : ℕ) : Type 0 where
  pub first : ℕ
  pub is : since ≡ suc first
  pub low : first ≤ place

pub waits_true : (since place : ℕ) → waits_at since place ≡ true → Since since place
waits_true zero place is = cc
waits_true (suc first) place is = record { first = first; is = refl; low = leb-true first place is }

pub waits_from : (since first place : ℕ) → since ≡ suc first → first ≤ place → waits_at since place ≡ true
waits_from since first place is low = rw is (le-leb first place low)

pub first_waits : (since : List ℕ) (log : List Entry) (word first core : ℕ) → get_or since word 0 ≡ suc first → IsStore log first core word → Waits since log first core word
first_waits since log word first core is store = record { store = store; waits = waits_from (get_or since word 0) first first is (omega arith) }

module _ (words : ℕ) (since : List ℕ) (log : List Entry) (epochs : List ℕ) (sound : AreSound words since log epochs) where
  -- the owner of a word to which a store waits
  pub owner_of_waiting : (place core word : ℕ) → Waits since log place core word → owner_since log epochs (get_or since word 0) ≡ Some (record { core = core; epoch = epoch_at log core place })
  owner_of_waiting place core word waits =
      let from = waits_true (get_or since word 0) place waits.waits in
      let store = sound.first word from.first from.is in
      let here = first_waits since log word from.first store.0 from.is store.1 in
      let same = sound.one from.first store.0 word place core word here waits refl in
      let epoch : get_or epochs from.first 0 ≡ epoch_at log store.0 from.first = sound.counted from.first (Store store.0 word store.1.value) store.1.is in
      let epoch_is : get_or epochs from.first 0 ≡ epoch_at log core place = epoch ∙ same.1 in
      let core_is : store.0 ≡ core = same.0 in
      let both : owner_by (slice_get log from.first) (get_or epochs from.first 0) ≡ Some (record { core = store.0; epoch = get_or epochs from.first 0 }) = ap (λ e. owner_by e (get_or epochs from.first 0)) store.1.is in
      ap (owner_since log epochs) from.is ∙ both
      ∙ ap (λ (n : ℕ). Some (record { core = n; epoch = get_or epochs from.first 0 })) core_is
      ∙ ap (λ (n : ℕ). Some (record { core = core; epoch = n })) epoch_is

  -- a word that has an owner waits since a store of it
  pub record Held (word : ℕ) (owner : Owner) : Type 0 where
    pub first : ℕ
    pub since_is : get_or since word 0 ≡ suc first
    pub waits : Waits since log first owner.core word
    pub epoch : epoch_at log owner.core first ≡ owner.epoch

  held_at : (word number : ℕ) (owner : Owner) → get_or since word 0 ≡ number → owner_since log epochs number ≡ Some owner → Held word owner
  held_at word zero owner is by = cc
  held_at word (suc first) owner is by =
      let store = sound.first word first is in
      let here = first_waits since log word first store.0 is store.1 in
      let owns = owner_of_waiting first store.0 word here in
      let same : Some (record { core = store.0; epoch = epoch_at log store.0 first }) ≡ Some owner = sym owns ∙ ap (owner_since log epochs) is ∙ by in
      let owner_is : record { core = store.0; epoch = epoch_at log store.0 first } ≡ owner = cc in
      rw (← owner_is) (record { first = first; since_is = is; waits = here; epoch = refl })

  pub held : (word : ℕ) (owner : Owner) → owner_since log epochs (get_or since word 0) ≡ Some owner → Held word owner
  held word owner by = held_at word (get_or since word 0) owner refl by
