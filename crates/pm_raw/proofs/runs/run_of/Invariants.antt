use Rattle.std.proofs.Common.{◌-◌, ◌<◌, ◌≤◌, get_or, length}
use Rattle.pm_raw.proofs.runs.run_of.Given as goal

abbrev pub invariant-loop-high : goal.invariant-loop-high
invariant-loop-high l = record {
  some : l.low < l.high;
  within : l.high ≤ length l.starts;
  begun : get_or l.starts l.low 0 ≤ l.event;
  last : l.high < length l.starts → l.event < get_or l.starts l.high 0;
}

-- fewer runs are left
abbrev pub decreases-loop-high : goal.decreases-loop-high
decreases-loop-high l = l.high - l.low
