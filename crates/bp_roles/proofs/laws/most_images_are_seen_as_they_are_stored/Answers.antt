use Rattle.bp_roles.proofs.AsStored.{seen_as_stored}
use Rattle.bp_roles.proofs.laws.most_images_are_seen_as_they_are_stored.Goals as goal

pub returns : goal.returns
returns c image is = seen_as_stored image is.wide is.other
