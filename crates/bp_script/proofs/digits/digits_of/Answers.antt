use Rattle.bp_script.proofs.EncodedRuns.{digits_are, low_places}
use Rattle.bp_script.proofs.digits.digits_of.Goals as goal

pub swizzle : goal.swizzle
swizzle c = low_places c.args.values c.fits-values.0 c.requires

pub returns : goal.returns
returns c = digits_are c.args.values c.fits-values.0 c.requires
