use Rattle.std.proofs.Common.{◌≡◌}
use Rattle.pm_epochs.specs.Replay.{epoch_of}
use Rattle.pm_steps.proofs.machine.has_barrier.Given as goal

abbrev pub invariant-loop-i : goal.invariant-loop-i
invariant-loop-i g l = epoch_of (g.R.Region.memory l.region).events l.from ≡ epoch_of (g.R.Region.memory l.region).events l.i
