use Rattle.bp_roles.proofs.Begun.{safe_base}
use Rattle.bp_roles.proofs.laws.a_safe_log_begins_well_formed.Goals as goal

pub returns : goal.returns
returns c = safe_base
