use Rattle.std.proofs.Common.{◌+◌, ◌≤◌}
use Rattle.bp_layout.specs.Clearing.{cleared_inodes}
use Rattle.bp_calls.proofs.ClearedSteps.{Clears}
use Rattle.bp_calls.proofs.clear.clear_some.Given as goal

-- the inodes so far are cleared
abbrev pub invariant-loop-ino : goal.invariant-loop-ino
invariant-loop-ino g l =
    record {
      clears : Clears (g.R.Region.memory l.fn.region) l.fn.first cleared_inodes l.ino (g.R.Region.memory l.region);
      from : l.fn.first ≤ l.ino;
      to : l.ino ≤ l.fn.first + cleared_inodes;
    }
