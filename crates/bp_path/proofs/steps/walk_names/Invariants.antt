use Rattle.std.proofs.Common.{length}
use Rattle.pm_region.specs.Memory.{current_words}
use Rattle.bp_path.proofs.Walking.{HasCome}
use Rattle.bp_path.proofs.steps.walk_names.Given as goal

abbrev pub invariant-loop-rest : goal.invariant-loop-rest
invariant-loop-rest g l = record {
  come : HasCome (current_words (g.R.Region.memory l.region)) l.text l.rest l.entry;
  right : g.F.Finder.right l.finder (current_words (g.R.Region.memory l.region));
  references : g.F.Finder.same_references l.initial.finder l.finder;
}

abbrev pub decreases-loop-rest : goal.decreases-loop-rest
decreases-loop-rest g l = length l.rest
