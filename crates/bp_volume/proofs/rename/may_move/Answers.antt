use Rattle.bp_volume.proofs.RenameLaws.{new_may}
use Rattle.bp_volume.proofs.rename.may_move.Goals as goal

pub returns-in-None-clause-may : goal.returns-in-None-clause-may
returns-in-None-clause-may g c = new_may _ c.args.from.now c.args.to.now c.args.ends.now c.requires.found c.requires.other c.in-None.is
