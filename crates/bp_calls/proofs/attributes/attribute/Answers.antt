use Rattle.std.proofs.Common.{arith}
use Rattle.bp_layout.specs.Reached.IsReached.{inode_file}
use Rattle.bp_layout.proofs.Reached.{reached-in_file}
use Rattle.pm_region.specs.Memory.{current_words}
use Rattle.pm_region.proofs.MemoryLaws.{length-current_words}
use Rattle.bp_calls.proofs.AttributeWords.{attribute_at}
use Rattle.bp_calls.proofs.attributes.attribute.Goals as goal

pub place-at-requires-clause-sound : goal.place-at-requires-clause-sound
place-at-requires-clause-sound g c = c.requires.well_formed.sound 0 inode_file

pub place-at-requires-clause-there : goal.place-at-requires-clause-there
place-at-requires-clause-there g c = reached-in_file (current_words (g.R.Region.memory c.args.region.now)) c.requires.well_formed c.args.ino c.requires.reached

pub load-requires : goal.load-requires
load-requires g c = omega (arith, c.place-at.ensures.in_range, length-current_words (g.R.Region.memory c.args.region.now))

pub returns : goal.returns
returns g c =
    attribute_at (current_words (g.R.Region.memory c.args.region.now)) c.args.ino c.args.number c.place-at.result c.requires.some c.requires.version c.place-at.ensures.place
    c.load.result c.load.type_inv c.load.ensures
