-- All words become clean.
use Rattle.std.proofs.Common.{◌≡◌, ℕ, zero, suc, ◌+◌, ◌<◌, ◌≤◌, inl, inr, Some, List, [], length, get_or, set, replicate, refl, sym, ◌∙◌, subst, arith}
use Rattle.std.proofs.lemmas.Bool.{cases_eq}
use Rattle.std.proofs.lemmas.List.{ext_get_or, length-replicate, length-set}
use Rattle.pm_cores.specs.declared.entry.Entry.{Entry}
use Rattle.pm_cores.specs.declared.entry.Entry.TheVariants.{Store}
use Rattle.pm_cores.specs.Log.{IsStore}
use Rattle.pm_cores.specs.Inside.{AreSound}
use Rattle.pm_cores.proofs.Lists.{get_within, set_either}

-- the words that still wait do so since a place that was not passed
pub record IsCleanTo (since : List ℕ) (log : List Entry) (place : ℕ) (since2 : List ℕ) : Type 0 where
  pub size : length since2 ≡ length since
  pub rest : (word first : ℕ) → get_or since2 word 0 ≡ suc first → (place ≤ first) × (core : ℕ) × IsStore log first core word

pub clean_start : (since : List ℕ) (log : List Entry) → ((word first : ℕ) → get_or since word 0 ≡ suc first → (core : ℕ) × IsStore log first core word) → IsCleanTo since log 0 since
clean_start since log first = record { size = refl; rest = λ word at is. let store = first word at is in (omega arith, store.0, store.1) }

pub clean_skip : (since : List ℕ) (log : List Entry) (place : ℕ) (since2 : List ℕ) → IsCleanTo since log place since2 → ((core word : ℕ) → IsStore log place core word → ⊥) → IsCleanTo since log (place + 1) since2
clean_skip since log place since2 so_far none = record {
  size = so_far.size;
  rest = λ word first is.
      let its = so_far.rest word first is in
      let low = its.0 in
      elim (cases_eq first place) [
        | inl here ↦ absurd (none its.1 word (subst (λ n. IsStore log n its.1 word) here its.2))
        | inr differ ↦ (omega arith, its.1, its.2)
      ];
}

pub clean_here : (since : List ℕ) (log : List Entry) (place : ℕ) (since2 : List ℕ) (core here : ℕ) → IsCleanTo since log place since2 → IsStore log place core here → here < length since2 → IsCleanTo since log (place + 1) (set since2 here 0)
clean_here since log place since2 core here so_far store within = record {
  size = let e = so_far.size in length-set since2 here 0 ∙ e;
  rest = λ word first is. elim (set_either since2 here 0 word within) [
    | inl same ↦ let nothing : 0 ≡ suc first = sym same.1 ∙ is in cc
    | inr differ ↦
        let its = so_far.rest word first (sym differ.1 ∙ is) in
        let low = its.0 in
        elim (cases_eq first place) [
          | inl at ↦
              let its_store = subst (λ n. IsStore log n its.1 word) at its.2 in
              let same : Some (Store its.1 word its_store.value) ≡ Some (Store core here store.value) = sym its_store.is ∙ store.is in
              let word_is : word ≡ here = cc in
              absurd (differ.0 word_is)
          | inr late ↦ (omega arith, its.1, its.2)
        ]
  ];
}

abbrev zeros : ℕ → List ℕ
zeros n = replicate n 0

pub zero_at : (n word : ℕ) → get_or (zeros n) word 0 ≡ 0
zero_at zero word = refl
zero_at (suc n) zero = refl
zero_at (suc n) (suc word) = zero_at n word

-- nothing done
pub fresh_sound : (words : ℕ) → AreSound words (replicate words 0) [] []
fresh_sound words = record {
  as_many_since = length-replicate words 0;
  as_many_epochs = refl;
  words = λ place core word store. let is = store.is in cc;
  counted = λ place entry is. cc;
  first = λ word first is. let nothing : 0 ≡ suc first = sym (zero_at words word) ∙ is in cc;
  one = λ place core word other its_core its_word waits its_waits same. let is = waits.store.is in cc;
  alone = λ place core word other its_core waits late used. let is = waits.store.is in cc;
  in_order = λ place core word other its_word waits store less. let is = waits.store.is in cc;
}

pub clean_end : (since : List ℕ) (log : List Entry) (since2 : List ℕ) → IsCleanTo since log (length log) since2 → since2 ≡ replicate (length since) 0
clean_end since log since2 so_far =
    ext_get_or 0 since2 (replicate (length since) 0) (so_far.size ∙ sym (length-replicate (length since) 0))
    (λ word within. at word (get_or since2 word 0) refl ∙ sym (zero_at (length since) word))
  where
    at : (word number : ℕ) → get_or since2 word 0 ≡ number → get_or since2 word 0 ≡ 0
    at word zero is = is
    at word (suc first) is =
        let its = so_far.rest word first is in
        let low = its.0 in
        let in_log = get_within log first (Store its.1 word its.2.value) its.2.is in
        absurd (omega arith)
