use Rattle.pm_region.specs.Memory.{current_words}
use Rattle.bp_layout.specs.Reached.IsReached.{inode_file}
use Rattle.bp_layout.proofs.Reached.{reached-in_file}
use Rattle.bp_read.proofs.inodes.tree_of.Goals as goal

pub get-inode-requires-clause-sound : goal.get-inode-requires-clause-sound
get-inode-requires-clause-sound g c = c.requires.well_formed.sound 0 inode_file

pub get-inode-requires-clause-there : goal.get-inode-requires-clause-there
get-inode-requires-clause-there g c = reached-in_file (current_words (g.R.Region.memory c.args.region.now)) c.requires.well_formed c.args.ino c.requires.reached
