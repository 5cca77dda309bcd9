use Rattle.bp_roles.proofs.KeptLaws.{kept-replay, kept-safe, kept-served}
use Rattle.bp_roles.proofs.laws.a_mount_sees_what_the_roles_show.Goals as goal

pub returns-clause-now : goal.returns-clause-now
returns-clause-now c = kept-served

pub returns-clause-crash : goal.returns-clause-crash
returns-clause-crash c = kept-replay

pub returns-clause-safe : goal.returns-clause-safe
returns-clause-safe c = kept-safe
