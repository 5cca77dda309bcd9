use Rattle.bp_cow.proofs.TreeSizes.{file_tree, inode_tree, tree_stays}
use Rattle.bp_cow.proofs.laws.trees_can_be_given_with_their_sizes.Goals as goal

pub returns-clause-inode : goal.returns-clause-inode
returns-clause-inode c n reached root height size = inode_tree c.args.old.now n c.args.tree.now reached root height size

pub returns-clause-inode_file : goal.returns-clause-inode_file
returns-clause-inode_file c root height size = file_tree c.args.old.now c.args.tree.now root height size

pub returns-clause-stays : goal.returns-clause-stays
returns-clause-stays c bound at reached top height low = tree_stays c.args.old.now c.args.new.now bound c.args.tree.now at reached top height low
