use Rattle.bp_roles.proofs.Durable.{committed_same, committed_second}
use Rattle.bp_roles.proofs.laws.a_commit_shows_the_tree_inside.Goals as goal

pub returns-clause-first : goal.returns-clause-first
returns-clause-first c is_b image has = committed_same is_b image has.version.wide has.version.magic has.well_formed

pub returns-clause-second : goal.returns-clause-second
returns-clause-second c is_b image three = committed_second is_b image three.wide three.magic
