-- The lowest dirty word of an owner.
use Rattle.std.proofs.Common.{◌≡◌, ℕ, suc, ◌+◌, ◌<◌, ◌≤◌, inl, inr, Bool, true, false, cond, ltb, ◌&&◌, Some, List, length, get_or, refl, sym, ◌∙◌, ap, subst, arith}
use Rattle.std.proofs.lemmas.Bool.{cases_lt, cases_eq, ltb-true, ltb-false}
use Rattle.pm_cores.specs.declared.entry.Entry.{Entry}
use Rattle.pm_cores.specs.declared.entry.Entry.TheVariants.{Store}
use Rattle.pm_cores.specs.declared.entry.Owner.{Owner}
use Rattle.pm_cores.specs.Log.{epoch_at, IsStore}
use Rattle.pm_cores.specs.Inside.{waits_at, owner_since, Waits, AreSound, IsLow}
use Rattle.pm_cores.proofs.Lists.{get_within}
use Rattle.pm_cores.proofs.Logs.{epoch_at-le}
use Rattle.pm_cores.proofs.Waiting.{owner_of_waiting, held}

pub record IsLowestTo (since : List ℕ) (log : List Entry) (epochs : List ℕ) (owner : Owner) (place found : ℕ) : Type 0 where
  pub under : owner_since log epochs (get_or since found 0) ≡ Some owner
  pub lowest : (word first : ℕ) → get_or since word 0 ≡ suc first → first < place → owner_since log epochs (get_or since word 0) ≡ Some owner → found ≤ word

module _ (words : ℕ) (since : List ℕ) (log : List Entry) (epochs : List ℕ) (sound : AreSound words since log epochs) (owner : Owner) (start : ℕ)
    (low : IsLow since log owner.core start) (found : (word : ℕ) × Waits since log start owner.core word) (epoch : owner.epoch ≡ get_or epochs start 0) where
  epoch_is : (place word : ℕ) → IsStore log place owner.core word → get_or epochs place 0 ≡ epoch_at log owner.core place
  epoch_is place word store = sound.counted place (Store owner.core word store.value) store.is

  owner_epoch : owner.epoch ≡ epoch_at log owner.core start
  owner_epoch = epoch ∙ epoch_is start found.0 found.1.store

  -- a store that waits, of no later epoch, is the owner's
  owns : (place word : ℕ) → Waits since log place owner.core word → get_or epochs place 0 ≤ owner.epoch → owner_since log epochs (get_or since word 0) ≡ Some owner
  owns place word waits less =
      let high = low place word waits in
      let more = epoch_at-le log owner.core start place high in
      let is = epoch_is place word waits.store in
      let its = owner_epoch in
      let same : epoch_at log owner.core place ≡ owner.epoch = omega arith in
      owner_of_waiting words since log epochs sound place owner.core word waits ∙ ap (λ (n : ℕ). Some (record { core = owner.core; epoch = n })) same

  pub lowest_start : (word : ℕ) → IsStore log start owner.core word → IsLowestTo since log epochs owner start word
  lowest_start word store =
      let same : Some (Store owner.core word store.value) ≡ Some (Store owner.core found.0 found.1.store.value) = sym store.is ∙ found.1.store.is in
      let word_is : word ≡ found.0 = cc in
      record {
        under = ap (λ n. owner_since log epochs (get_or since n 0)) word_is ∙ owns start found.0 found.1 (let e = epoch in omega arith);
        lowest = λ other first is less by.
            let its = held words since log epochs sound other owner by in
            let at : first ≡ its.first = let e : suc first ≡ suc its.first = sym is ∙ its.since_is in omega arith in
            let high = low its.first other its.waits in
            absurd (omega arith);
      }

  pub lowest_skip : (place lowest : ℕ) → IsLowestTo since log epochs owner place lowest → ((word : ℕ) → IsStore log place owner.core word → waits_at (get_or since word 0) place ≡ true → lowest ≤ word) → IsLowestTo since log epochs owner (place + 1) lowest
  lowest_skip place lowest so_far none = record {
    under = so_far.under;
    lowest = λ word first is less by. elim (cases_eq first place) [
      | inl here ↦
          let its = held words since log epochs sound word owner by in
          let at : its.first ≡ place = let e : suc first ≡ suc its.first = sym is ∙ its.since_is in omega arith in
          let waits = subst (λ n. Waits since log n owner.core word) at its.waits in
          none word waits.store waits.waits
      | inr differ ↦ so_far.lowest word first is (omega arith) by
    ];
  }

  pub lowest_here : (place lowest word : ℕ) → IsLowestTo since log epochs owner place lowest → IsStore log place owner.core word → get_or epochs place 0 ≤ owner.epoch → waits_at (get_or since word 0) place ≡ true → word < lowest → IsLowestTo since log epochs owner (place + 1) word
  lowest_here place lowest word so_far store less waits below = record {
    under = owns place word (record { store = store; waits = waits }) less;
    lowest = λ other first is early by. elim (cases_eq first place) [
      | inl here ↦
          let its = held words since log epochs sound other owner by in
          let at : its.first ≡ place = let e : suc first ≡ suc its.first = sym is ∙ its.since_is in omega arith in
          let its_store = subst (λ n. IsStore log n owner.core other) at its.waits.store in
          let same : Some (Store owner.core other its_store.value) ≡ Some (Store owner.core word store.value) = sym its_store.is ∙ store.is in
          let word_is : other ≡ word = cc in
          omega arith
      | inr differ ↦ let l = so_far.lowest other first is (omega arith) by in omega arith
    ];
  }

  pub lowest_step : (place lowest word : ℕ) → IsLowestTo since log epochs owner place lowest → IsStore log place owner.core word → get_or epochs place 0 ≤ owner.epoch → (waiting : Bool) → waiting ≡ waits_at (get_or since word 0) place → IsLowestTo since log epochs owner (place + 1) (cond (waiting && ltb word lowest) word lowest)
  lowest_step place lowest word so_far store less true is = lower (ltb word lowest) refl
    where
      lower : (test : Bool) → ltb word lowest ≡ test → IsLowestTo since log epochs owner (place + 1) (cond test word lowest)
      lower true below = lowest_here place lowest word so_far store less (sym is) (ltb-true word lowest below)
      lower false above = lowest_skip place lowest so_far (λ other its_store its_waits.
          let same : Some (Store owner.core other its_store.value) ≡ Some (Store owner.core word store.value) = sym its_store.is ∙ store.is in
          let word_is : other ≡ word = cc in
          let at = ltb-false word lowest above in
          omega arith)
  lowest_step place lowest word so_far store less false is = lowest_skip place lowest so_far (λ other its_store its_waits.
      let same : Some (Store owner.core other its_store.value) ≡ Some (Store owner.core word store.value) = sym its_store.is ∙ store.is in
      let word_is : other ≡ word = cc in
      let not : false ≡ true = is ∙ ap (λ n. waits_at (get_or since n 0) place) (sym word_is) ∙ its_waits in
      cc)

  pub lowest_end : (lowest : ℕ) → IsLowestTo since log epochs owner (length log) lowest → (word : ℕ) → owner_since log epochs (get_or since word 0) ≡ Some owner → lowest ≤ word
  lowest_end lowest so_far word by =
      let its = held words since log epochs sound word owner by in
      so_far.lowest word its.first its.since_is (get_within log its.first (Store owner.core word its.waits.store.value) its.waits.store.is) by

  pub lowest_before : (place lowest here : ℕ) → IsLowestTo since log epochs owner place lowest → IsStore log place owner.core here → owner.epoch < get_or epochs place 0 → (word : ℕ) → owner_since log epochs (get_or since word 0) ≡ Some owner → lowest ≤ word
  lowest_before place lowest here so_far store late word by =
      let its = held words since log epochs sound word owner by in
      let is = epoch_is place here store in
      let its_epoch = its.epoch in
      so_far.lowest word its.first its.since_is (elim (cases_lt its.first place) [
        | inl early ↦ early
        | inr following ↦ let more = epoch_at-le log owner.core place its.first following in absurd (omega arith)
      ]) by
