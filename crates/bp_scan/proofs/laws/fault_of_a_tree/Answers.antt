use Rattle.bp_scan.proofs.TreeFaults.{fails_midway}
use Rattle.bp_scan.proofs.laws.fault_of_a_tree.Goals as goal

pub returns : goal.returns
returns c =
    fails_midway c.args.image.now c.args.blocks.now c.args.inodes.now c.args.todo.now c.args.current c.args.slot c.args.ino c.args.holes c.requires.some_inodes c.requires.midway c.requires.inode_file c.requires.new
    c.requires.found c.requires.kind
