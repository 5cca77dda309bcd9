use Rattle.bp_disk.proofs.CopyLaws.{none_spare}
use Rattle.bp_disk.proofs.temp_file.take_or_make.Goals as goal

pub returns-in_err-make_second-in-None-clause-spares : goal.returns-in_err-make_second-in-None-clause-spares
returns-in_err-make_second-in-None-clause-spares g c = none_spare _ _ _ c.in_err-make_second-in-None.ensures.failed
