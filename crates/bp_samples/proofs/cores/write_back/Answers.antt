use Rattle.bp_samples.proofs.CoresLaws.{two_back}
use Rattle.bp_samples.proofs.cores.write_back.Goals as goal

pub returns-in-Ok : goal.returns-in-Ok
returns-in-Ok c = rw c.in-Ok.ensures.written (two_back c.args.cores.now c.args.word c.requires)
