use Rattle.bp_layout.specs.Reached.IsReached.{inode_file}
use Rattle.bp_read.proofs.Filling.{fills, first_word, inode_in_range}
use Rattle.bp_read.proofs.inodes.fill.Goals as goal

pub place-at-requires-clause-sound : goal.place-at-requires-clause-sound
place-at-requires-clause-sound g c = c.requires.well_formed.sound 0 inode_file

pub put-requires-clause-in_range : goal.put-requires-clause-in_range
put-requires-clause-in_range g c =
    rw c.version-version.ensures (inode_in_range (g.R.Region.memory c.args.region.now) c.requires.well_formed c.args.ino c.place-at.result c.requires.free c.place-at.ensures.place)

pub returns : goal.returns
returns g c =
    fills c.version-version.result _ _ c.args.ino c.place-at.result _ c.version-version.ensures
    (first_word (g.R.Region.memory c.args.region.now) c.args.ino c.place-at.result c.place-at.ensures.place) c.put.ensures.stores c.put.ensures.inode
