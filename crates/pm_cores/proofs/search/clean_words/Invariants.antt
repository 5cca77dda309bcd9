use Rattle.pm_cores.proofs.Cleaning.{IsCleanTo}
use Rattle.pm_cores.proofs.search.clean_words.Given as goal

abbrev pub invariant-loop-k : goal.invariant-loop-k
invariant-loop-k l = IsCleanTo l.fn.since l.log l.k l.since
