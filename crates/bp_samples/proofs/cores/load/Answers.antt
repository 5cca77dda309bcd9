use Rattle.bp_samples.proofs.CoresLaws.{two_loaded}
use Rattle.bp_samples.proofs.cores.load.Goals as goal

pub returns : goal.returns
returns g c = rw c.load.ensures.after (two_loaded c.args.cores.now c.args.core c.args.word c.requires)
