use Rattle.pm_cores.proofs.Settling.{IsSettledTo}
use Rattle.pm_cores.proofs.search.settle_words.Given as goal

abbrev pub invariant-loop-k : goal.invariant-loop-k
invariant-loop-k l = IsSettledTo l.fn.since l.log l.epochs l.owner l.low l.k l.since
