-- Stores of values that are allowed at their words, and stores of which a crash may keep any subset.
use Rattle.std.specs.Prelude.{◌≡◌, ◌⊎◌, ℕ, Bool, IsTrue, List, [], ◌∷◌, length, slice_index, slice_set}
use Rattle.pm_epochs.specs.declared.event.Event.{Event}
use Rattle.pm_epochs.specs.declared.event.Event.TheVariants.{Store, Barrier, CallEnd}
use Rattle.pm_epochs.specs.Crash.{IsQuiet, Likeness}

-- Each store of the log writes a value that is allowed at its word.
abbrev pub StoresMay : (ℕ → ℕ → Type 0) → List Event → Type 0
StoresMay May [] = Unit {0}
StoresMay May (Store word value ∷ events) = May word value × StoresMay May events
StoresMay May (Barrier ∷ events) = StoresMay May events
StoresMay May (CallEnd ∷ events) = StoresMay May events

-- Any value is allowed at these words.
abbrev pub AnyAt : (ℕ → Type 0) → ℕ → ℕ → Type 0
AnyAt Inside word value = Inside word

-- The same number of words, each unchanged or with a value that is allowed there.
pub record EachMay (May : ℕ → ℕ → Type 0) (old new : List ℕ) : Type 0 where
  pub size : length new ≡ length old
  pub each : (word : ℕ) → (slice_index new word ≡ slice_index old word) ⊎ May word (slice_index new word)

-- Stores of values that pass a test are quiet, if the relation ignores which words have such values.
abbrev pub IsQuietByTest : Likeness → (ℕ → ℕ → Bool) → List ℕ → List Event → Type 0
IsQuietByTest Same may base events =
    ((image : List ℕ) → EachMay (λ word value. IsTrue (may word value)) base image → Same base image) →
    StoresMay (λ word value. IsTrue (may word value)) events → IsQuiet Same base events

-- The stores of these values at these words, in order.
abbrev pub links_of : List (ℕ × ℕ) → List Event
links_of [] = []
links_of (link ∷ links) = Store link.0 link.1 ∷ links_of links

-- Whichever of the links are stored over these words, the result is like the base.
abbrev pub AnyOf : Likeness → List ℕ → List ℕ → List (ℕ × ℕ) → Type 0
AnyOf Same base words [] = Same base words
AnyOf Same base words (link ∷ links) =
    AnyOf Same base words links × AnyOf Same base (slice_set words link.0 link.1) links
