use Rattle.bp_path.proofs.WalkLaws.{walk_is_lookup}
use Rattle.bp_path.proofs.laws.walk_is_lookup.Goals as goal

pub returns : goal.returns
returns c = walk_is_lookup c.args._image.now
