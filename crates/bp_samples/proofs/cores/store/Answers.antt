use Rattle.bp_samples.proofs.CoresLaws.{two_stored}
use Rattle.bp_samples.proofs.cores.store.Goals as goal

pub returns : goal.returns
returns c = rw c.store.ensures (two_stored c.args.cores.now c.args.core c.args.word c.args.value c.requires)
