use Rattle.bp_roles.proofs.Bridge.{kept_same}
use Rattle.bp_roles.proofs.laws.the_snapshot_inside_is_the_tree_outside.Goals as goal

pub returns : goal.returns
returns c is_b image has = kept_same is_b image has.wide has.well_formed
