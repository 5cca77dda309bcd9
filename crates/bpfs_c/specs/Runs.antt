-- Runs of the log as C sees them.
use Rattle.std.specs.Prelude.{◌≡◌, ◌≤◌, ◌<◌, ℕ, List, length}
use Rattle.pm_epochs.specs.declared.event.Event.{Event}
use Rattle.pm_runs.specs.Runs.{ReportsRun, run_length}
use Rattle.pm_runs.specs.declared.pieces.Run.{Run}
use Rattle.pm_runs.specs.declared.pieces.Run.TheVariants.{Barrier, CallEnd, Stores}
use Rattle.bpfs_c.specs.declared.runs.LogRun.{LogRun}

abbrev pub seen_run : Run → LogRun
seen_run (Stores word count) = record { kind = 0; word = word }
seen_run Barrier = record { kind = 1; word = 0 }
seen_run CallEnd = record { kind = 2; word = 0 }

-- The run of the log that begins with an event is written to the caller's variables, and the result is its number of
-- events: 0 for stores where the array has no room for a value. Where the log has no such event, the result is 0 too,
-- and the variables keep their contents.
pub data HasPiece (events : List Event) (first : ℕ) (old : LogRun) (values : List ℕ) (count : ℕ) (new : LogRun) (new_values : List ℕ) : Type 0 where
  none : length events ≤ first → count ≡ 0 → new ≡ old → new_values ≡ values →
      HasPiece events first old values count new new_values
  some : (run : Run) → first < length events → ReportsRun events first values run new_values →
      new ≡ seen_run run → count ≡ run_length run → HasPiece events first old values count new new_values
