-- A part of a log as it is stored in memory.
use Rattle.std.specs.Prelude.{◌+◌, ◌^◌, ◌<◌, List, length}
use Rattle.pm_epochs.specs.declared.event.Event.{Event}
use Rattle.pm_raw.specs.Entries.{events_of}
use Rattle.pm_raw.specs.RunWords.{AreRuns, words_from}
use Rattle.pm_raw.specs.declared.log.Log.TheInside.{Inside}

abbrev pub events_in_log : Inside → List Event
events_in_log log = events_of (words_from log.firsts.now log.starts.now log.at (length log.values.now)) log.values.now

-- The runs of the part are those of its events.
pub record IsPart (log : Inside) : Type 0 where
  pub runs : AreRuns log.firsts.now log.starts.now log.at (log.at + length log.values.now)
  pub small : log.at + length log.values.now < 2 ^ 64
