-- Pieces of a log: stores to consecutive words, a barrier, or an end-of-call marker.
use Rattle.std.specs.Prelude.{◌≡◌, ◌≤◌, ◌<◌, ◌+◌, ℕ, List, [], ◌∷◌, ◌++◌, Some, drop, length, slice_get, take}
use Rattle.pm_epochs.specs.Kind.{event_of, value_at}
use Rattle.pm_epochs.specs.declared.event.Event.{Event}
use Rattle.pm_epochs.specs.declared.event.Event.TheVariants.{Barrier, CallEnd}
use Rattle.pm_epochs.specs.declared.event.EventKind.{EventKind}
use Rattle.pm_epochs.specs.declared.event.EventKind.TheVariants as kinds
use Rattle.pm_epochs.specs.Log.{words_after}
use Rattle.pm_region.specs.Memory.{stores_from, with_values}
use Rattle.pm_runs.specs.declared.pieces.Run.{Run}
use Rattle.pm_runs.specs.declared.pieces.Run.TheVariants as run

-- The number of events that a run has, and the number of its values.
abbrev pub run_length : Run → ℕ
run_length (run.Stores word count) = count
run_length run.Barrier = 1
run_length run.CallEnd = 1

abbrev pub value_count : Run → ℕ
value_count (run.Stores word count) = count
value_count run.Barrier = 0
value_count run.CallEnd = 0

-- The events of a run, whose values are the first of these.
abbrev pub run_events : Run → List ℕ → List Event
run_events (run.Stores word count) values = stores_from word (take count values)
run_events run.Barrier values = Barrier ∷ []
run_events run.CallEnd values = CallEnd ∷ []

-- The kind of the event with which a run begins: a store to its first word, even if the run has no value.
abbrev pub first_kind : Run → EventKind
first_kind (run.Stores word count) = kinds.Store word
first_kind run.Barrier = kinds.Barrier
first_kind run.CallEnd = kinds.CallEnd

-- The run has exactly the events of a log from one on, as many as its length: at least one if there is room for a
-- value. So a barrier and a marker are returned in any room, and of stores at least the first word. No other value has
-- changed.
pub record ReportsRun (events : List Event) (first : ℕ) (old : List ℕ) (run : Run) (new : List ℕ) : Type 0 where
  pub reported : take (run_length run) (drop first events) ≡ run_events run new
  pub within : first + run_length run ≤ length events
  pub begun : 0 < length old → 0 < run_length run
  pub kind : slice_get events first ≡ Some (event_of (first_kind run) (value_at events first))
  pub fits : value_count run ≤ length old
  pub rest : drop (value_count run) new ≡ drop (value_count run) old

-- The events of runs, in order.
abbrev pub runs_events : List (Run × List ℕ) → List Event
runs_events [] = []
runs_events (reported ∷ runs) = run_events reported.0 reported.1 ++ runs_events runs

-- The words after the stores of runs, in order.
abbrev pub words_after_runs : List ℕ → List (Run × List ℕ) → List ℕ
words_after_runs words runs = words_after words (runs_events runs)

-- The words with the values of a run copied to their place.
abbrev pub copied_run : List ℕ → Run → List ℕ → List ℕ
copied_run words (run.Stores word count) values = with_values words word (take count values)
copied_run words run.Barrier values = words
copied_run words run.CallEnd values = words

-- The words with the values of runs copied to their places, one run after the other.
abbrev pub copied : List ℕ → List (Run × List ℕ) → List ℕ
copied words [] = words
copied words (reported ∷ runs) = copied (copied_run words reported.0 reported.1) runs
