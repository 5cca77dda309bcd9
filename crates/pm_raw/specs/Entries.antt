-- A log as a list of words and a list of values, with one entry of each for an event. In memory the words are stored
-- as runs, and the values in a vector.
use Rattle.std.specs.Prelude.{ℕ, ◌==◌, if◌then◌else◌, List, [], ◌∷◌}
use Rattle.pm_epochs.specs.declared.event.Event.{Event}
use Rattle.pm_epochs.specs.declared.event.Event.TheVariants.{Store, Barrier, CallEnd}

-- The number 2^41 - 1, which is no word of a region. It represents an event that is no store.
abbrev pub no_word : ℕ
no_word = 2199023255551

-- The event that is no store, by its value.
abbrev pub signal_of : ℕ → Event
signal_of value = if value == 0 then Barrier else CallEnd

abbrev pub event_of : ℕ → ℕ → Event
event_of word value = if word == no_word then signal_of value else Store word value

abbrev pub events_of : List ℕ → List ℕ → List Event
events_of [] values = []
events_of (word ∷ words) [] = []
events_of (word ∷ words) (value ∷ values) = event_of word value ∷ events_of words values

-- The events that an `Entries` has, each by its word and its number, and the number of events that it has memory for.
pub record Entered : Type 0 where
  pub words : List ℕ
  pub saved : List ℕ
  pub room : ℕ
