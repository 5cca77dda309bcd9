use Rattle.std.proofs.Common.{◌≡◌, ◌≤◌, ◌+◌, length}
use Rattle.pm_epochs.specs.Log.{epoch_stores}
use Rattle.pm_raw.proofs.crash.first_stores.Given as goal

abbrev pub invariant-loop-rest : goal.invariant-loop-rest
invariant-loop-rest l = record {
  few : l.count + length l.rest ≤ length l.fn.log;
  so_far : l.count + epoch_stores 0 l.rest ≡ epoch_stores 0 l.fn.log;
}

-- fewer events are left
abbrev pub decreases-loop-rest : goal.decreases-loop-rest
decreases-loop-rest l = length l.rest
