use Rattle.bp_roles.proofs.Spare.{spare_right}
use Rattle.bp_roles.proofs.laws.a_begin_is_right.Goals as goal

pub returns : goal.returns
returns c is_b image events only = spare_right is_b image events only.version.wide only.version.magic only.well_formed only.alone
