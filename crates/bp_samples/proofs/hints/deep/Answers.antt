use Rattle.std.proofs.Common.{refl}
use Rattle.bp_samples.proofs.hints.deep.Goals as goal

pub returns : goal.returns
returns g c = (rw (c.expect.ensures) at c.scan_whole-scanned.ensures.well_formed).first
