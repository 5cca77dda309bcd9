-- A cut keeps at most as many calls as there are.
use Rattle.std.proofs.Common.{◌≤◌}
use Rattle.std.specs.Prelude.{List}
use Rattle.pm_epochs.specs.declared.event.Event.{Event}
use Rattle.pm_epochs.specs.Log.{call_ends}
use Rattle.pm_epochs.specs.Replay.{PowerCut, kept_calls}
use Rattle.pm_epochs.proofs.CrashLaws.{call_ends_of-le}

pub kept_calls-le : (events : List Event) (cut : PowerCut) → kept_calls events cut ≤ call_ends events
kept_calls-le events cut = call_ends_of-le events cut.epoch cut.mask
