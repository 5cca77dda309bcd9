use Rattle.bp_disk.proofs.SaveLaws.{placed_other}
use Rattle.bp_disk.proofs.save.Saver.take_place.Goals as goal

pub returns-in_default-clause-placed : goal.returns-in_default-clause-placed
returns-in_default-clause-placed g c = placed_other _ _ _ c.in_default.not-Beside
