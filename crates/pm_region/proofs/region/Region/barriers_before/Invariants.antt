use Rattle.std.proofs.Common.{◌≡◌, ◌≤◌, ◌+◌, take, drop}
use Rattle.pm_epochs.specs.Log.{barriers}
use Rattle.pm_region.proofs.region.Region.barriers_before.Given as goal

abbrev pub invariant-loop-i : goal.invariant-loop-i
invariant-loop-i g l =
    let taken = take l.moment (g.Self.Region.memory l.self).events in
    record {
      few : l.count ≤ l.i;
      so_far : l.count + barriers (drop l.i taken) ≡ barriers taken;
    }
