use Rattle.pm_cores.proofs.Lowest.{IsLowestTo}
use Rattle.pm_cores.proofs.search.lowest_word.Given as goal

abbrev pub invariant-loop-k : goal.invariant-loop-k
invariant-loop-k l = IsLowestTo l.since l.log l.epochs l.owner l.k l.lowest
