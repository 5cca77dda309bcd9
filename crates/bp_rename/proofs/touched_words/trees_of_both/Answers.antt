use Rattle.pm_region.specs.Memory.{current_words}
use Rattle.bp_rename.proofs.ListedTrees.{lists_both}
use Rattle.bp_rename.proofs.touched_words.trees_of_both.Goals as goal

pub returns : goal.returns
returns g c =
    lists_both (current_words (g.R.Region.memory c.args.region.now)) c.args.first c.args.second c.size_of_directory.result c.size_of_directory-2.result c.size_of_inodes.result
    c.size_of_directory.ensures c.size_of_directory-2.ensures c.size_of_inodes.ensures
