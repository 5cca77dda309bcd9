use Rattle.pm_cores.specs.Inside.{IsLow}
use Rattle.pm_cores.proofs.search.first_waiting.Given as goal

abbrev pub invariant-loop-k : goal.invariant-loop-k
invariant-loop-k l = IsLow l.since l.log l.core l.k
