use Rattle.std.proofs.Common.{drop}
use Rattle.pm_epochs.specs.Log.{IsStoredIn}
use Rattle.pm_epochs.specs.May.{AnyAt, EachMay}
use Rattle.pm_region.proofs.words.put_back.Given as goal

abbrev pub invariant-loop-event : goal.invariant-loop-event
invariant-loop-event l = EachMay (AnyAt (IsStoredIn (drop l.event-index l.events))) l.from l.words
