use Rattle.bp_session.proofs.BlockLaws.{image_once}
use Rattle.bp_session.proofs.laws.bytes_have_one_image.Goals as goal

pub returns : goal.returns
returns c = image_once
