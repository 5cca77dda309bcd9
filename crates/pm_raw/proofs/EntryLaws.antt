-- A log that stands in two arrays.
use Rattle.std.proofs.Common.{◌≡◌, ℕ, zero, suc, ◌+◌, ◌<◌, ◌≤◌, inl, inr, List, [], ◌∷◌, ◌++◌, length, take, drop, get_or, refl, sym, ◌∙◌, ap, arith}
use Rattle.std.specs.Prelude.{Some, slice_get}
use Rattle.std.specs.List.{range_with_len}
use Rattle.std.proofs.lemmas.Bool.Decides.{eqb_tells}
use Rattle.pm_epochs.specs.declared.event.Event.{Event}
use Rattle.pm_epochs.specs.declared.event.Event.TheVariants.{Store}
use Rattle.pm_region.specs.Memory.{AreInRow, AreWithin, Follows, stores_from}
use Rattle.pm_raw.specs.Entries.{no_word, signal_of, event_of, events_of}

pub event_of-store : (word value : ℕ) → word < no_word → event_of word value ≡ Store word value
event_of-store word value low = elim (eqb_tells word no_word) [
  | inl same ↦ absurd (omega (arith, same.1))
  | inr differ ↦ rw differ.0 refl
]

-- what is no store goes nowhere
pub within-signal : (count value : ℕ) → AreWithin count (signal_of value ∷ [])
within-signal count value = elim (eqb_tells value 0) [
  | inl same ↦ rw same.0 tt
  | inr differ ↦ rw differ.0 tt
]

pub length_events : (words values : List ℕ) → length values ≡ length words → length (events_of words values) ≡ length words
length_events [] values same = refl
length_events (word ∷ words) [] same = absurd (omega arith)
length_events (word ∷ words) (value ∷ values) same = ap suc (length_events words values (omega arith))

pub events_of-append : (words more values rest : List ℕ) → length values ≡ length words → events_of (words ++ more) (values ++ rest) ≡ events_of words values ++ events_of more rest
events_of-append [] more [] rest same = refl
events_of-append [] more (value ∷ values) rest same = absurd (omega arith)
events_of-append (word ∷ words) more [] rest same = absurd (omega arith)
events_of-append (word ∷ words) more (value ∷ values) rest same = ap (λ es. event_of word value ∷ es) (events_of-append words more values rest (omega arith))

pub events_of-take : (n : ℕ) (words values : List ℕ) → events_of (take n words) (take n values) ≡ take n (events_of words values)
events_of-take zero words values = refl
events_of-take (suc n) [] values = refl
events_of-take (suc n) (word ∷ words) [] = refl
events_of-take (suc n) (word ∷ words) (value ∷ values) = ap (λ es. event_of word value ∷ es) (events_of-take n words values)

pub events_of-drop : (n : ℕ) (words values : List ℕ) → length values ≡ length words → events_of (drop n words) (drop n values) ≡ drop n (events_of words values)
events_of-drop zero words values same = refl
events_of-drop (suc n) [] [] same = refl
events_of-drop (suc n) [] (value ∷ values) same = absurd (omega arith)
events_of-drop (suc n) (word ∷ words) [] same = absurd (omega arith)
events_of-drop (suc n) (word ∷ words) (value ∷ values) same = events_of-drop n words values (omega arith)

pub get_or-events_of : (words values : List ℕ) (i : ℕ) (none : Event) → length values ≡ length words → i < length words → get_or (events_of words values) i none ≡ event_of (get_or words i 0) (get_or values i 0)
get_or-events_of [] values i none same low = absurd (omega arith)
get_or-events_of (word ∷ words) [] i none same low = absurd (omega arith)
get_or-events_of (word ∷ words) (value ∷ values) zero none same low = refl
get_or-events_of (word ∷ words) (value ∷ values) (suc i) none same low = get_or-events_of words values i none (omega arith) (omega arith)

-- a run of stores
pub events_of-run : (first : ℕ) (values : List ℕ) → first + length values ≤ no_word → events_of (range_with_len first (length values)) values ≡ stores_from first values
events_of-run first [] fits = refl
events_of-run first (value ∷ values) fits =
    ap (λ e. e ∷ events_of (range_with_len (first + 1) (length values)) values) (event_of-store first value (omega arith))
    ∙ ap (λ es. Store first value ∷ es) (events_of-run (first + 1) values (omega arith))

pub row_stores : (word : ℕ) (values : List ℕ) → word + length values ≤ no_word → events_of (range_with_len word (length values)) values ≡ stores_from word values
row_stores word values fits = events_of-run word values fits

-- one event that is no store
pub row_signal : (word : ℕ) (values : List ℕ) → word ≡ no_word → length values ≡ 1 → events_of (range_with_len word (length values)) values ≡ signal_of (get_or values 0 0) ∷ []
row_signal word [] is one = absurd (omega arith)
row_signal word (value ∷ []) is one = ap (λ w. event_of w value ∷ []) is
row_signal word (value ∷ more ∷ values) is one = absurd (omega arith)

-- events after a log
pub log-pushed : (words values new_words new_values more_words more_values : List ℕ) → length values ≡ length words → new_words ≡ words ++ more_words → new_values ≡ values ++ more_values → events_of new_words new_values ≡ events_of words values ++ events_of more_words more_values
log-pushed words values new_words new_values more_words more_values same words_are values_are =
    ap (λ ws. events_of ws new_values) words_are ∙ ap (events_of (words ++ more_words)) values_are
    ∙ events_of-append words more_words values more_values same

-- what stands at a place, by what a look there gives
pub slice_get_read : (events : List Event) (i : ℕ) (event : Event) → i < length events → event ≡ get_or events i event → slice_get events i ≡ Some event
slice_get_read [] i event low is = absurd (omega arith)
slice_get_read (first ∷ events) zero event low is = ap Some (sym is)
slice_get_read (first ∷ events) (suc i) event low is = slice_get_read events i event (omega arith) is

-- ---- events in a row

-- the event with a number
event_at : (words values : List ℕ) (i : ℕ) (event : Event) → length values ≡ length words → i < length words → slice_get (events_of words values) i ≡ Some event → event ≡ event_of (get_or words i 0) (get_or values i 0)
event_at [] values i event same low here = absurd (omega (arith, low))
event_at (word ∷ words) [] i event same low here = absurd (omega (arith, same))
event_at (word ∷ words) (value ∷ values) zero event same low here = let is : event_of word value ≡ event = cc in sym is
event_at (word ∷ words) (value ∷ values) (suc i) event same low here = event_at words values i event (omega (arith, same)) (omega (arith, low)) here

follows_at : (event next : Event) (word value given : ℕ) → event ≡ event_of word value → next ≡ event_of (word + 1) given → word + 1 < no_word → Follows event next
follows_at event next word value given is next_is low =
    rw (is, next_is, event_of-store word value (omega (arith, low)), event_of-store (word + 1) given low) refl

-- words in a row, of which none is what stands for no store, are those of stores in a row
pub row_events : (words values : List ℕ) (first count word : ℕ) → length values ≡ length words → first + count ≤ length words → ((j : ℕ) → j < count → get_or words (first + j) 0 ≡ word + j)
    → (1 < count → word + count ≤ no_word) → AreInRow (events_of words values) first count
row_events words values first count word same fits row low i event next more here there =
    follows_at event next (word + i) (get_or values (first + i) 0) (get_or values (first + i + 1) 0)
    (event_at words values (first + i) event same (omega (arith, more, fits)) here ∙ ap (λ w. event_of w (get_or values (first + i) 0)) (row i (omega (arith, more))))
    (event_at words values (first + i + 1) next same (omega (arith, more, fits)) there ∙ ap (λ w. event_of w (get_or values (first + i + 1) 0)) second)
    (omega (arith, more, low (omega (arith, more))))
  where
    second : get_or words (first + i + 1) 0 ≡ word + i + 1
    second = let place : first + (i + 1) ≡ first + i + 1 = omega arith in omega (arith, ap (λ k. get_or words k 0) place, row (i + 1) more)
