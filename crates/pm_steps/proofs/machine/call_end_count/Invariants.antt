use Rattle.std.proofs.Common.{◌≡◌, ◌≤◌, ◌+◌, drop}
use Rattle.pm_epochs.specs.Log.{call_ends}
use Rattle.pm_steps.proofs.machine.call_end_count.Given as goal

abbrev pub invariant-loop-i : goal.invariant-loop-i
invariant-loop-i g l =
    let events = (g.R.Region.memory l.region).events in
    record {
      few : l.count ≤ l.i;
      so_far : l.count + call_ends (drop l.i events) ≡ call_ends events;
    }
