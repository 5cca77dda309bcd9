use Rattle.bp_changes.proofs.PerformsLaws.{performs_short_between, performs_fits, performs_safe}
use Rattle.bp_changes.proofs.laws.performed_calls_are_short.Goals as goal

pub returns-clause-short : goal.returns-clause-short
returns-clause-short g in_snapshot old new change done = performs_short_between in_snapshot old new change _ done

pub returns-clause-fits : goal.returns-clause-fits
returns-clause-fits g in_snapshot old new change done free has = performs_fits in_snapshot old new change _ done free has

pub returns-clause-safe : goal.returns-clause-safe
returns-clause-safe g in_snapshot old new change done ended safe ends = performs_safe in_snapshot old new change _ done ended safe ends
