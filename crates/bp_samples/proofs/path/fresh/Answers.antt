use Rattle.bp_samples.proofs.EmptyImage.{empty_well_formed}
use Rattle.bp_samples.proofs.path.fresh.Goals as goal

pub returns : goal.returns
returns c = rw (c.in_ok-region.ensures, c.in_ok-words.ensures.words) empty_well_formed
