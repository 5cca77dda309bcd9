use Rattle.bp_plain.proofs.Existence.{tree_of, stands_for}
use Rattle.bp_plain.proofs.Uniqueness.{stands_once}
use Rattle.bp_plain.proofs.laws.one_tree.Goals as goal

pub returns : goal.returns
returns c =
    let image = c.args._image.now in
    let tree = tree_of image c.requires.first c.requires.second in
    let stands = stands_for image c.requires.first c.requires.second in
    (tree, stands, λ other also. stands_once image tree other stands also)
