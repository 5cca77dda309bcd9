use Rattle.bp_plain.proofs.FileTrees.{stands_file_tree}
use Rattle.bp_plain.proofs.laws.file_tree.Goals as goal

pub returns : goal.returns
returns c = λ tree stands. stands_file_tree c.args._image.now tree stands
