use Rattle.bp_scan.proofs.Ending.{end_well_formed, end_blocks, end_inodes}
use Rattle.bp_scan.proofs.laws.nothing_is_left.Goals as goal

pub returns-clause-well_formed : goal.returns-clause-well_formed
returns-clause-well_formed c =
    end_well_formed c.args.image.now c.args.blocks.now c.args.inodes.now c.args.todo.now c.requires.formatted c.requires.inode_blocks c.requires.some_inodes c.requires.root_kind c.requires.range c.requires.midway c.requires.none_left

pub returns-clause-blocks : goal.returns-clause-blocks
returns-clause-blocks c =
    end_blocks c.args.image.now c.args.blocks.now c.args.inodes.now c.args.todo.now c.requires.formatted c.requires.inode_blocks c.requires.some_inodes c.requires.root_kind c.requires.range c.requires.midway c.requires.none_left

pub returns-clause-inodes : goal.returns-clause-inodes
returns-clause-inodes c =
    end_inodes c.args.image.now c.args.blocks.now c.args.inodes.now c.args.todo.now c.requires.formatted c.requires.inode_blocks c.requires.some_inodes c.requires.root_kind c.requires.range c.requires.midway c.requires.none_left
