use Rattle.std.proofs.Common.{◌≡◌, ◌≤◌, ◌+◌, drop}
use Rattle.pm_epochs.specs.Log.{call_ends}
use Rattle.pm_epochs.proofs.replay.call_end_count.Given as goal

abbrev pub invariant-loop-event : goal.invariant-loop-event
invariant-loop-event l = record {
  few : l.count ≤ l.event-index;
  so_far : l.count + call_ends (drop l.event-index l.events) ≡ call_ends l.events;
}
