use Rattle.bp_roles.proofs.Begin.{begins_inside}
use Rattle.bp_roles.proofs.laws.a_begin_is_a_snapshot.Goals as goal

pub returns : goal.returns
returns c is_b image after begins =
    begins_inside is_b image after begins.version.wide begins.version.magic begins.well_formed begins.begun
