-- Runs in two vectors.
use Rattle.std.specs.Prelude.{◌≡◌, ◌≤◌, length, vec_capacity}
use Rattle.pm_raw.specs.RunWords.{Worded, AreRuns, run_word_at, words_from}
use Rattle.pm_raw.specs.declared.runs.Runs.TheInside.{Inside}

abbrev pub worded_of : Inside → Worded
worded_of runs = record { words = words_from runs.firsts.items runs.starts.items 0 runs.count; room = runs.room }

-- There are at most as many runs as events, the two vectors have room for as many, and the next word of the last run
-- is recorded.
pub record HasRuns (runs : Inside) : Type 0 where
  pub are : AreRuns runs.firsts.items runs.starts.items 0 runs.count
  pub next : runs.next ≡ run_word_at runs.firsts.items runs.starts.items runs.count
  pub few : length runs.firsts.items ≤ runs.count
  pub counted : runs.count ≤ runs.room
  pub firsts_room : runs.room ≤ vec_capacity runs.firsts
  pub starts_room : runs.room ≤ vec_capacity runs.starts
