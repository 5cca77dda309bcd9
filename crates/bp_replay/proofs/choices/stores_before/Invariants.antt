use Rattle.std.proofs.Common.{◌≡◌, ◌≤◌, ◌+◌, take, drop}
use Rattle.pm_epochs.specs.Log.{epoch_stores}
use Rattle.bp_replay.proofs.choices.stores_before.Given as goal

abbrev pub invariant-loop-i : goal.invariant-loop-i
invariant-loop-i g l =
    let taken = take l.moment (g.R.Region.memory l.region).events in
    record {
      within : l.i ≤ l.moment;
      few : l.count ≤ l.i;
      so_far : l.count + epoch_stores 0 (drop l.i taken) ≡ epoch_stores l.epoch taken;
    }
