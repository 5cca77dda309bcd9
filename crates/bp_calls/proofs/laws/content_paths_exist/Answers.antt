use Rattle.bp_read.proofs.ExistingPaths.{content_path-exists}
use Rattle.bp_calls.proofs.laws.content_paths_exist.Goals as goal

pub returns : goal.returns
returns c = λ change t k word keeps.
    content_path-exists c.args.image.now change c.requires keeps.inode_file t k word.reached keeps.tree word.full word.below
