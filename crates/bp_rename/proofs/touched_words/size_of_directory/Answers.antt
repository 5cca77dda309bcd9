use Rattle.std.proofs.Common.{◌∙◌, ap}
use Rattle.bp_layout.specs.Words.{height_of}
use Rattle.pm_region.specs.Memory.{current_words}
use Rattle.bp_rename.proofs.ListedTrees.{directory_tree}
use Rattle.bp_rename.proofs.touched_words.size_of_directory.Goals as goal

pub returns : goal.returns
returns g c =
    directory_tree (current_words (g.R.Region.memory c.args.region.now)) c.requires.well_formed c.args.dir _ c.requires.some c.requires.reached c.requires.entries c.root_path.ensures
    (c.height.ensures ∙ ap height_of c.tree_of-tree.ensures.root) c.tree_of-tree.ensures.size
