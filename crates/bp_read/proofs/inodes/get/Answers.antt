use Rattle.pm_region.specs.Memory.{current_words}
use Rattle.bp_read.proofs.InodeWords.{long_enough}
use Rattle.bp_read.proofs.inodes.get.Goals as goal

pub inode_file-requires : goal.inode_file-requires
inode_file-requires g c = long_enough (current_words (g.R.Region.memory c.args.region.now)) c.args.ino c.requires.sound c.requires.there
