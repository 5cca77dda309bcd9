use Rattle.bp_replay.proofs.Rule.{right_storm, storm_runs}
use Rattle.bp_replay.proofs.laws.a_storm_is_a_run.Goals as goal

pub returns-clause-right : goal.returns-clause-right
returns-clause-right c = right_storm

pub returns-clause-runs : goal.returns-clause-runs
returns-clause-runs c = storm_runs
