use Rattle.std.proofs.Common.{◌≡◌, ◌≤◌, ◌+◌, drop}
use Rattle.pm_epochs.specs.Log.{barriers}
use Rattle.pm_region.specs.Epochs.{epoch_start}
use Rattle.pm_region.proofs.region.Region.start_of_epoch.Given as goal

abbrev pub invariant-loop-i : goal.invariant-loop-i
invariant-loop-i g l =
    let events = (g.Self.Region.memory l.self).events in
    record {
      begun : l.left ≤ barriers (drop l.i events);
      so_far : l.i + epoch_start l.left (drop l.i events) ≡ epoch_start l.epoch events;
    }
