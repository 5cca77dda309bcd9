-- Words are written back.
use Rattle.std.proofs.Common.{◌≡◌, ℕ, suc, ◌<◌, inl, inr, Bool, true, false, cond, List, length, get_or, sym, ◌∙◌, ap}
use Rattle.std.proofs.lemmas.Bool.{cases_Bool}
use Rattle.pm_cores.specs.declared.entry.Entry.{Entry}
use Rattle.pm_cores.specs.Log.{epoch_at}
use Rattle.pm_cores.specs.Inside.{waits_at, Waits, AreSound}

-- What is left where the words that a test reports are written back: with a word go those of its core to which stores of earlier epochs wait.
pub record IsCleared (words : ℕ) (since : List ℕ) (log : List Entry) (epochs since2 : List ℕ) (gone : ℕ → Bool) : Type 0 where
  pub sound : AreSound words since log epochs
  pub since_size : length since2 ≡ length since
  pub since_is : (word : ℕ) → get_or since2 word 0 ≡ cond (gone word) 0 (get_or since word 0)
  pub closed : (place core word other its_word : ℕ) → Waits since log place core word → Waits since log other core its_word →
      epoch_at log core place < epoch_at log core other → gone its_word ≡ true → gone word ≡ true

module _ (words : ℕ) (since : List ℕ) (log : List Entry) (epochs since2 : List ℕ) (gone : ℕ → Bool)
    (cleared : IsCleared words since log epochs since2 gone) where
  open cleared use {sound, closed}

  gone_zero : (word : ℕ) → gone word ≡ true → get_or since2 word 0 ≡ 0
  gone_zero word is = cleared.since_is word ∙ ap (λ b. cond b 0 (get_or since word 0)) is

  left_same : (word : ℕ) → gone word ≡ false → get_or since2 word 0 ≡ get_or since word 0
  left_same word is = cleared.since_is word ∙ ap (λ b. cond b 0 (get_or since word 0)) is

  left_by : (word first : ℕ) → get_or since2 word 0 ≡ suc first → gone word ≡ false
  left_by word first is = elim (cases_Bool (gone word)) [
    | inl hit ↦ let zero_is : 0 ≡ suc first = sym (gone_zero word hit) ∙ is in cc
    | inr miss ↦ miss
  ]

  left_waits : (word place : ℕ) → waits_at (get_or since2 word 0) place ≡ true → gone word ≡ false
  left_waits word place waits = elim (cases_Bool (gone word)) [
    | inl hit ↦ let not : false ≡ true = sym (ap (λ n. waits_at n place) (gone_zero word hit)) ∙ waits in cc
    | inr miss ↦ miss
  ]

  pub still : (place core word : ℕ) → Waits since2 log place core word → Waits since log place core word
  still place core word waits =
      let left = left_waits word place waits.waits in
      record { store = waits.store; waits = sym (ap (λ n. waits_at n place) (left_same word left)) ∙ waits.waits }

  pub cleared_sound : AreSound words since2 log epochs
  cleared_sound = record {
    as_many_since = cleared.since_size ∙ sound.as_many_since;
    as_many_epochs = sound.as_many_epochs;
    words = sound.words;
    counted = sound.counted;
    first = λ word first is. sound.first word first (sym (left_same word (left_by word first is)) ∙ is);
    one = λ place core word other its_core its_word one two same. sound.one place core word other its_core its_word (still place core word one) (still other its_core its_word two) same;
    alone = λ place core word other its_core waits low used. sound.alone place core word other its_core (still place core word waits) low used;
    in_order = λ place core word other its_word waits store low.
        let before = sound.in_order place core word other its_word (still place core word waits) store low in
        elim (cases_Bool (gone its_word)) [
          | inl hit ↦
              let here = closed place core word other its_word (still place core word waits) (record { store = store; waits = before }) low hit in
              let left = left_waits word place waits.waits in
              let not : true ≡ false = sym here ∙ left in
              cc
          | inr miss ↦ ap (λ n. waits_at n other) (left_same its_word miss) ∙ before
        ];
  }
