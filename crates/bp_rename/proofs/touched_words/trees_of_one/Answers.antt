use Rattle.pm_region.specs.Memory.{current_words}
use Rattle.bp_rename.proofs.ListedTrees.{lists_one}
use Rattle.bp_rename.proofs.touched_words.trees_of_one.Goals as goal

pub returns : goal.returns
returns g c = λ j some other. lists_one (current_words (g.R.Region.memory c.args.region.now)) c.args.dir j c.size_of_directory.result c.size_of_inodes.result some other c.size_of_directory.ensures c.size_of_inodes.ensures
