-- Logs that are stated by the words now and an undo log.
use Rattle.std.proofs.Common.{◌≡◌, ℕ, zero, suc, ◌+◌, ◌-◌, ◌<◌, ◌≤◌, inl, inr, List, [], ◌∷◌, ◌++◌, length, take, drop, get_or, set, refl, sym, ◌∙◌, ap, arith}
use Rattle.std.proofs.lemmas.Bool.Decides.{eqb_tells}
use Rattle.std.proofs.lemmas.List.{drop_more, drop-set-lt, get_or-set_same, get_or-set_other, length-set, set-get_or, set-set}
use Rattle.pm_epochs.specs.declared.event.Event.{Event}
use Rattle.pm_epochs.specs.declared.event.Event.TheVariants.{Store, Barrier, CallEnd}
use Rattle.pm_epochs.specs.Log.{words_after}
use Rattle.pm_region.specs.Memory.{AreWithin, stores_from}
use Rattle.pm_raw.specs.Entries.{signal_of}
use Rattle.pm_raw.specs.Unwound.{base_from, events_from, undo_of}

pub length-base : (now : List ℕ) (undos : List Event) → length (base_from now undos) ≡ length now
length-base now [] = refl
length-base now (Store word saved ∷ undos) = length-set (base_from now undos) word saved ∙ length-base now undos
length-base now (Barrier ∷ undos) = length-base now undos
length-base now (CallEnd ∷ undos) = length-base now undos

pub length-events : (now : List ℕ) (undos : List Event) → length (events_from now undos) ≡ length undos
length-events now [] = refl
length-events now (Store word saved ∷ undos) = ap suc (length-events now undos)
length-events now (Barrier ∷ undos) = ap suc (length-events now undos)
length-events now (CallEnd ∷ undos) = ap suc (length-events now undos)

-- the end of a log is undone first
pub base-append : (now : List ℕ) (first rest : List Event) → base_from now (first ++ rest) ≡ base_from (base_from now rest) first
base-append now [] rest = refl
base-append now (Store word saved ∷ first) rest = ap (λ ws. set ws word saved) (base-append now first rest)
base-append now (Barrier ∷ first) rest = base-append now first rest
base-append now (CallEnd ∷ first) rest = base-append now first rest

pub events-append : (now : List ℕ) (first rest : List Event) → events_from now (first ++ rest) ≡ events_from (base_from now rest) first ++ events_from now rest
events-append now [] rest = refl
events-append now (Store word saved ∷ first) rest =
    ap (λ ws. Store word (get_or ws word 0) ∷ events_from now (first ++ rest)) (base-append now first rest)
    ∙ ap (λ es. Store word (get_or (base_from (base_from now rest) first) word 0) ∷ es) (events-append now first rest)
events-append now (Barrier ∷ first) rest = ap (λ es. Barrier ∷ es) (events-append now first rest)
events-append now (CallEnd ∷ first) rest = ap (λ es. CallEnd ∷ es) (events-append now first rest)

-- a store undone and done again
redone : (words : List ℕ) (word saved : ℕ) → set (set words word saved) word (get_or words word 0) ≡ words
redone words word saved = set-set words word saved (get_or words word 0) ∙ set-get_or words word 0

-- the words after the first events are what is left where the others are undone
pub words-prefix : (n : ℕ) (now : List ℕ) (undos : List Event) → words_after (base_from now undos) (take n (events_from now undos)) ≡ base_from now (drop n undos)
words-prefix zero now undos = refl
words-prefix (suc n) now [] = refl
words-prefix (suc n) now (Store word saved ∷ undos) =
    let suffix = base_from now undos in
    ap (λ ws. words_after ws (take n (events_from now undos))) (redone suffix word saved) ∙ words-prefix n now undos
words-prefix (suc n) now (Barrier ∷ undos) = words-prefix n now undos
words-prefix (suc n) now (CallEnd ∷ undos) = words-prefix n now undos

-- the words after all events are those now
pub words-now : (now : List ℕ) (undos : List Event) → words_after (base_from now undos) (events_from now undos) ≡ now
words-now now [] = refl
words-now now (Store word saved ∷ undos) =
    let suffix = base_from now undos in
    ap (λ ws. words_after ws (events_from now undos)) (redone suffix word saved) ∙ words-now now undos
words-now now (Barrier ∷ undos) = words-now now undos
words-now now (CallEnd ∷ undos) = words-now now undos

-- the events from one on need no event before it
pub events-drop : (n : ℕ) (now : List ℕ) (undos : List Event) → drop n (events_from now undos) ≡ events_from now (drop n undos)
events-drop zero now undos = refl
events-drop (suc n) now [] = refl
events-drop (suc n) now (Store word saved ∷ undos) = events-drop n now undos
events-drop (suc n) now (Barrier ∷ undos) = events-drop n now undos
events-drop (suc n) now (CallEnd ∷ undos) = events-drop n now undos

-- ## Events that are done

pub base-undone : (words : List ℕ) (events : List Event) → base_from (words_after words events) (undo_of words events) ≡ words
base-undone words [] = refl
base-undone words (Store word value ∷ events) =
    ap (λ ws. set ws word (get_or words word 0)) (base-undone (set words word value) events)
    ∙ redone words word value
base-undone words (Barrier ∷ events) = base-undone words events
base-undone words (CallEnd ∷ events) = base-undone words events

pub events-undone : (words : List ℕ) (events : List Event) → AreWithin (length words) events → events_from (words_after words events) (undo_of words events) ≡ events
events-undone words [] within = refl
events-undone words (Store word value ∷ events) within =
    let next = set words word value in
    let long = length-set words word value in
    ap (λ ws. Store word (get_or ws word 0) ∷ events_from (words_after next events) (undo_of next events)) (base-undone next events)
    ∙ ap (λ v. Store word v ∷ events_from (words_after next events) (undo_of next events)) (get_or-set_same words word value 0 within.0)
    ∙ ap (λ es. Store word value ∷ es) (events-undone next events (rw long within.1))
events-undone words (Barrier ∷ events) within = ap (λ es. Barrier ∷ es) (events-undone words events within)
events-undone words (CallEnd ∷ events) within = ap (λ es. CallEnd ∷ es) (events-undone words events within)

-- what a run of stores replaces
pub undo-run : (words values : List ℕ) (first : ℕ) → first + length values ≤ length words → undo_of words (stores_from first values) ≡ stores_from first (take (length values) (drop first words))
undo-run words [] first fits = refl
undo-run words (value ∷ values) first fits =
    let next = set words first value in
    ap (λ es. Store first (get_or words first 0) ∷ es)
    (undo-run next values (first + 1) (omega (arith, length-set words first value))
    ∙ ap (λ ws. stores_from (first + 1) (take (length values) ws)) (drop-set-lt (first + 1) words first value (omega arith)))
    ∙ sym (ap (λ ws. stores_from first (take (suc (length values)) ws)) (drop_more words first 0 (omega arith)))

-- events are done, and stand after the undo log with what they replaced
module _ (now next : List ℕ) (undos new_undos more : List Event) (next_is : next ≡ words_after now more) (undos_are : new_undos ≡ undos ++ undo_of now more) where
  pub base-pushed : base_from next new_undos ≡ base_from now undos
  base-pushed =
      ap (base_from next) undos_are
      ∙ base-append next undos (undo_of now more)
      ∙ ap (λ ws. base_from (base_from ws (undo_of now more)) undos) next_is
      ∙ ap (λ ws. base_from ws undos) (base-undone now more)

  pub events-pushed : AreWithin (length now) more → events_from next new_undos ≡ events_from now undos ++ more
  events-pushed within =
      ap (events_from next) undos_are
      ∙ events-append next undos (undo_of now more)
      ∙ ap (λ ws. events_from (base_from ws (undo_of now more)) undos ++ events_from ws (undo_of now more)) next_is
      ∙ ap (λ ws. events_from ws undos ++ events_from (words_after now more) (undo_of now more)) (base-undone now more)
      ∙ ap (λ es. events_from now undos ++ es) (events-undone now more within)

-- ## Stores to words in a row

-- what a word was before stores that do not go to it
pub base-missed : (now : List ℕ) (first : ℕ) (saved : List ℕ) (rest : List Event) (word : ℕ) → (first ≤ word → first + length saved ≤ word) → get_or (base_from now (stores_from first saved ++ rest)) word 0 ≡ get_or (base_from now rest) word 0
base-missed now first [] rest word outside = refl
base-missed now first (old ∷ saved) rest word outside = elim (eqb_tells word first) [
  | inl same ↦ absurd (omega (arith, same.1, outside (omega (arith, same.1))))
  | inr differ ↦
      get_or-set_other (base_from now (stores_from (first + 1) saved ++ rest)) first word old 0 differ.1
      ∙ base-missed now (first + 1) saved rest word (λ above. omega (arith, outside (omega arith)))
]

-- and before stores of which one goes to it
pub base-found : (now : List ℕ) (first : ℕ) (saved : List ℕ) (rest : List Event) (word : ℕ) → word < length now → first ≤ word → word < first + length saved
    → get_or (base_from now (stores_from first saved ++ rest)) word 0 ≡ get_or saved (word - first) 0
base-found now first [] rest word low above under = absurd (omega arith)
base-found now first (old ∷ saved) rest word low above under =
    let suffix = base_from now (stores_from (first + 1) saved ++ rest) in
    let long : length suffix ≡ length now = length-base now (stores_from (first + 1) saved ++ rest) in
    elim (eqb_tells first word) [
      | inl same ↦
          let prefix : word - first ≡ 0 = omega (arith, same.1) in
          ap (λ place. get_or (set suffix place old) word 0) same.1
          ∙ get_or-set_same suffix word old 0 (omega (arith, long))
          ∙ sym (ap (λ i. get_or (old ∷ saved) i 0) prefix)
      | inr differ ↦
          let further : word - first ≡ suc (word - (first + 1)) = omega (arith, differ.1) in
          get_or-set_other suffix first word old 0 (λ e. differ.1 (sym e))
          ∙ base-found now (first + 1) saved rest word low (omega (arith, differ.1)) (omega arith)
          ∙ sym (ap (λ i. get_or (old ∷ saved) i 0) further)
    ]

-- ## What is no store

pub after-signal : (words : List ℕ) (number : ℕ) → words ≡ words_after words (signal_of number ∷ [])
after-signal words number = elim (eqb_tells number 0) [
  | inl none ↦ rw none.0 refl
  | inr some ↦ rw some.0 refl
]

pub undo-signal : (words : List ℕ) (number : ℕ) → signal_of number ∷ [] ≡ undo_of words (signal_of number ∷ [])
undo-signal words number = elim (eqb_tells number 0) [
  | inl none ↦ rw none.0 refl
  | inr some ↦ rw some.0 refl
]

pub base-signal : (now : List ℕ) (number : ℕ) → base_from now (signal_of number ∷ []) ≡ now
base-signal now number = elim (eqb_tells number 0) [
  | inl none ↦ rw none.0 refl
  | inr some ↦ rw some.0 refl
]

pub events-signal : (now : List ℕ) (number : ℕ) → events_from now (signal_of number ∷ []) ≡ signal_of number ∷ []
events-signal now number = elim (eqb_tells number 0) [
  | inl none ↦ rw none.0 refl
  | inr some ↦ rw some.0 refl
]
