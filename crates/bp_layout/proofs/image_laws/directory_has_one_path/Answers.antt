use Rattle.bp_layout.proofs.Paths.{path_once}
use Rattle.bp_layout.proofs.image_laws.directory_has_one_path.Goals as goal

pub returns : goal.returns
returns c = path_once c.args.image.now c.requires
