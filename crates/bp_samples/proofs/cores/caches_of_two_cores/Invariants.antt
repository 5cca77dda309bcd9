use Rattle.bp_samples.specs.Cores.{AreTwo}
use Rattle.bp_samples.proofs.cores.caches_of_two_cores.Given as goal

abbrev pub invariant-loop-step : goal.invariant-loop-step
invariant-loop-step g l = AreTwo l.cores
