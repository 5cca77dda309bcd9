use Rattle.bp_roles.proofs.StoredLaws.{own_now, own_then, stored_log, stored_now, stored_then}
use Rattle.bp_roles.proofs.laws.what_is_seen_says_what_is_stored.Goals as goal

pub returns-clause-now : goal.returns-clause-now
returns-clause-now c = stored_now

pub returns-clause-base : goal.returns-clause-base
returns-clause-base c = stored_then

pub returns-clause-events : goal.returns-clause-events
returns-clause-events c = stored_log

pub returns-clause-own : goal.returns-clause-own
returns-clause-own c = own_now

pub returns-clause-own_base : goal.returns-clause-own_base
returns-clause-own_base c = own_then
