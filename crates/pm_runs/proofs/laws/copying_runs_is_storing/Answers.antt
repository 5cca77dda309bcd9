use Rattle.pm_runs.proofs.CopyLaws.{copied-runs}
use Rattle.pm_runs.proofs.laws.copying_runs_is_storing.Goals as goal

pub returns : goal.returns
returns c = copied-runs
