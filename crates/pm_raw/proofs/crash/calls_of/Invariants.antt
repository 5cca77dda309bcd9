use Rattle.std.proofs.Common.{◌≡◌, ◌≤◌, ◌+◌, length}
use Rattle.pm_epochs.specs.Replay.{call_ends_of}
use Rattle.pm_raw.proofs.crash.calls_of.Given as goal

abbrev pub invariant-loop-rest : goal.invariant-loop-rest
invariant-loop-rest l = record {
  few : l.calls + length l.rest ≤ length l.fn.log;
  so_far : l.calls + call_ends_of 0 l.mask l.rest ≡ call_ends_of 0 l.fn.mask l.fn.log;
}

-- fewer events are left
abbrev pub decreases-loop-rest : goal.decreases-loop-rest
decreases-loop-rest l = length l.rest
