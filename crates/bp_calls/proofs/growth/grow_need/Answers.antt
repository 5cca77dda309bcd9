use Rattle.std.proofs.Common.{◌+◌, arith}
use Rattle.bp_append.proofs.FewNeeded.{few_needed}
use Rattle.bp_calls.proofs.GrowthRoom.{inodes_end_fits}
use Rattle.bp_layout.specs.Reached.IsReached.{inode_file}
use Rattle.bp_layout.specs.Tree.{IsSound}
use Rattle.pm_region.specs.Memory.{current_words}
use Rattle.bp_calls.proofs.growth.grow_need.Goals as goal

pub overflow_add-inodes : goal.overflow_add-inodes
overflow_add-inodes g c = omega (arith, inodes_end_fits (current_words (g.R.Region.memory c.args.region.now)) c.requires, c.inode_file-inodes.ensures.size)

pub need_prep-requires-clause-sound : goal.need_prep-requires-clause-sound
need_prep-requires-clause-sound g c = rw (c.inode_file-inodes.ensures.root, c.inode_file-inodes.ensures.size) (c.requires.sound 0 inode_file)

pub need_prep-requires-clause-fits : goal.need_prep-requires-clause-fits
need_prep-requires-clause-fits g c = omega (arith, inodes_end_fits (current_words (g.R.Region.memory c.args.region.now)) c.requires, c.inode_file-inodes.ensures.size)

pub returns-clause-few : goal.returns-clause-few
returns-clause-few g c =
    let words = current_words (g.R.Region.memory c.args.region.now) in
    let inodes = c.inode_file-inodes in
    let sound : IsSound words inodes.result.root inodes.result.size = rw (inodes.ensures.root, inodes.ensures.size) (c.requires.sound 0 inode_file) in
    omega (arith, c.need_prep.ensures, few_needed words inodes.result.root inodes.result.size inodes.result.size (inodes.result.size + 4096) 1 (omega arith) (omega arith) (omega arith) sound.low)
