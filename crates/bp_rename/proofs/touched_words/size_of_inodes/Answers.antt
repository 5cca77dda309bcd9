use Rattle.std.proofs.Common.{◌∙◌, ap}
use Rattle.bp_layout.specs.Words.{height_of}
use Rattle.pm_region.specs.Memory.{current_words}
use Rattle.bp_rename.proofs.ListedTrees.{inodes_tree}
use Rattle.bp_rename.proofs.touched_words.size_of_inodes.Goals as goal

pub returns : goal.returns
returns g c = inodes_tree (current_words (g.R.Region.memory c.args.region.now)) c.requires _ c.new.ensures (c.height.ensures ∙ ap height_of c.inode_file-tree.ensures.root) c.inode_file-tree.ensures.size
