use Rattle.std.proofs.Common.{◌≡◌, ◌≤◌, ◌+◌, drop}
use Rattle.pm_steps.specs.Machine.{waiting_call_ends}
use Rattle.pm_steps.proofs.machine.waiting_call_end_count.Given as goal

abbrev pub invariant-loop-i : goal.invariant-loop-i
invariant-loop-i g l =
    let events = (g.R.Region.memory l.region).events in
    record {
      few : l.count ≤ l.i;
      so_far : l.count + waiting_call_ends (drop l.i events) (drop l.i l.backs.back) ≡ waiting_call_ends events l.backs.back;
    }
