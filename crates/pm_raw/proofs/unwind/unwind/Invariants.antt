use Rattle.std.proofs.Common.{◌≡◌, ◌≤◌, ◌++◌, drop, length, take}
use Rattle.pm_raw.specs.Entries.{events_of}
use Rattle.pm_raw.specs.Unwound.{base_from, events_from}
use Rattle.pm_raw.proofs.unwind.unwind.Given as goal

-- the events after the first ones are unwound
abbrev pub invariant-loop-end : goal.invariant-loop-end
invariant-loop-end l = record {
  low : l.start ≤ l.end;
  fits : l.end ≤ length l.fn.saved;
  each : length l.saved ≡ length l.fn.saved;
  words : l.words ≡ base_from l.fn.words (drop l.end (events_of l.places.words l.fn.saved));
  log : events_of l.places.words l.saved ≡ take l.end (events_of l.places.words l.fn.saved) ++ events_from l.fn.words (drop l.end (events_of l.places.words l.fn.saved));
}

-- fewer events are left
abbrev pub decreases-loop-end : goal.decreases-loop-end
decreases-loop-end l = l.end
