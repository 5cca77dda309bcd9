use Rattle.std.proofs.Common.{◌≡◌, ◌≤◌, take}
use Rattle.pm_epochs.specs.Log.{barriers, call_ends}
use Rattle.bp_session.proofs.actions.count_log.Given as goal

-- the events so far were counted
abbrev pub invariant-loop-i : goal.invariant-loop-i
invariant-loop-i g l =
    record {
      barriers : l.barriers ≡ barriers (take l.i (g.R.Region.memory l.region).events);
      calls : l.calls ≡ call_ends (take l.i (g.R.Region.memory l.region).events);
      few_barriers : l.barriers ≤ l.i;
      few_calls : l.calls ≤ l.i;
    }
