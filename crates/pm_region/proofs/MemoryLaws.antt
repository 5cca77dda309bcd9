-- Memories to whose logs events are added, and memories that are drained.
use Rattle.std.proofs.Common.{◌≡◌, ℕ, zero, suc, ◌+◌, ◌-◌, ◌<◌, ◌≤◌, true, false, List, [], ◌∷◌, ◌++◌, length, take, get_or, refl, sym, ◌∙◌, ap, arith, add-one}
use Rattle.std.specs.Prelude.{nat_lt, if◌then◌else◌}
use Rattle.std.proofs.lemmas.List.{append_assoc, append-nil, length-append, take-append-drop}
use Rattle.pm_epochs.specs.declared.event.Event.{Event}
use Rattle.pm_epochs.specs.declared.event.Event.TheVariants.{Store}
use Rattle.pm_epochs.specs.Log.{words_after, IsPiece}
use Rattle.pm_epochs.proofs.CrashLaws.{words_after-append, length-words_after}
use Rattle.pm_epochs.proofs.PieceLaws.{length-piece}
use Rattle.pm_region.specs.Memory.{Memory, current_words, room_in, Adds, drained, with_room, stores_from, with_values}

pub adds_none : (memory : Memory) → Adds memory memory []
adds_none memory = ap (λ es. record memory { events = es }) (sym (append-nil memory.events))

-- events are added one after another
pub adds_both : (first second third : Memory) (xs ys : List Event) → Adds first second xs → Adds second third ys → Adds first third (xs ++ ys)
adds_both first second third xs ys added more =
    more ∙ ap (λ (m : Memory). record m { events = m.events ++ ys }) added
    ∙ ap (λ es. record first { events = es }) (append_assoc first.events xs ys)

module _ (old new : Memory) (more : List Event) where
  pub base-adds : Adds old new more → new.base ≡ old.base
  base-adds added = ap (λ (m : Memory). m.base) added

  pub capacity-adds : Adds old new more → new.capacity ≡ old.capacity
  capacity-adds added = ap (λ (m : Memory). m.capacity) added

  pub current_words-adds : Adds old new more → current_words new ≡ words_after (current_words old) more
  current_words-adds added = ap current_words added ∙ words_after-append old.base old.events more

  pub room_in-adds : Adds old new more → room_in new ≡ room_in old - length more
  room_in-adds added = ap room_in added ∙ omega (arith, length-append old.events more)

-- there are as many words as at the last drain
pub length-current_words : (memory : Memory) → length (current_words memory) ≡ length memory.base
length-current_words memory = length-words_after memory.base memory.events

-- the room that a part of a call leaves
pub room_in-piece : (most_barriers most_stores : ℕ) (old new : Memory) (more : List Event) → Adds old new more → IsPiece most_barriers most_stores more → room_in old ≤ room_in new + (most_barriers + most_stores)
room_in-piece most_barriers most_stores old new more added piece = omega (arith, room_in-adds old new more added, length-piece most_barriers most_stores more piece)

-- ## Room for a call

pub current_words-with_room : (wanted : ℕ) (memory : Memory) → current_words (with_room wanted memory) ≡ current_words memory
current_words-with_room wanted memory = elim (nat_lt (room_in memory) wanted) as (λ full. current_words (if full then drained memory else memory) ≡ current_words memory) [
  | true ↦ refl
  | false ↦ refl
]

-- ## Stores in a row

pub length-stores_from : (word : ℕ) (values : List ℕ) → length (stores_from word values) ≡ length values
length-stores_from word [] = refl
length-stores_from word (value ∷ values) = ap suc (length-stores_from (word + 1) values)

-- one more store
pub stores_from-more : (word : ℕ) (values : List ℕ) (i : ℕ) → i < length values → stores_from word (take (i + 1) values) ≡ stores_from word (take i values) ++ Store (word + i) (get_or values i 0) ∷ []
stores_from-more word values i low = rw add-one (more word values i low)
  where
    more : (word : ℕ) (values : List ℕ) (i : ℕ) → i < length values → stores_from word (take (suc i) values) ≡ stores_from word (take i values) ++ Store (word + i) (get_or values i 0) ∷ []
    more word [] i low = absurd (omega arith)
    more word (value ∷ values) zero low =
        let here : word ≡ word + 0 = omega arith in
        ap (λ w. Store w value ∷ []) here
    more word (value ∷ values) (suc i) low =
        let there : (word + 1) + i ≡ word + suc i = omega arith in
        ap (λ es. Store word value ∷ es) (more (word + 1) values i (omega arith) ∙ ap (λ w. stores_from (word + 1) (take i values) ++ Store w (get_or values i 0) ∷ []) there)

-- ## Words that are set in a row

module _ (words : List ℕ) (first : ℕ) where
  pub with_values-none : with_values words first [] ≡ words
  with_values-none =
      let here : first + 0 ≡ first = omega arith in
      rw here (take-append-drop first words)
