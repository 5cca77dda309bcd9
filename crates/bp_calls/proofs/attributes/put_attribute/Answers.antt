use Rattle.std.proofs.Common.{refl, arith}
use Rattle.bp_layout.specs.Reached.IsReached.{inode_file}
use Rattle.bp_layout.proofs.Reached.{reached-in_file}
use Rattle.pm_region.specs.Memory.{current_words}
use Rattle.pm_region.proofs.MemoryLaws.{length-current_words}
use Rattle.bp_calls.proofs.AttributeWords.{commits_some}
use Rattle.bp_calls.proofs.attributes.put_attribute.Goals as goal

pub place-at-requires-clause-sound : goal.place-at-requires-clause-sound
place-at-requires-clause-sound g c = c.requires.mounted.well_formed.sound 0 inode_file

pub place-at-requires-clause-there : goal.place-at-requires-clause-there
place-at-requires-clause-there g c = reached-in_file (current_words (g.R.Region.memory c.args.parts.now.region)) c.requires.mounted.well_formed c.args.ino c.requires.reached

pub commit_word-requires-clause-in_range : goal.commit_word-requires-clause-in_range
commit_word-requires-clause-in_range g c = omega (arith, c.place-at.ensures.in_range, length-current_words (g.R.Region.memory c.args.parts.now.region))

pub returns : goal.returns
returns g c =
    commits_some g.R.Region.memory c.args.parts.now _ c.args.ino c.args.number c.place-at.result c.args.value c.requires.some
    (record {
      well_formed = c.requires.mounted.well_formed;
      reached = c.requires.reached;
      few = c.requires.number;
      version = c.requires.version;
      stands = c.place-at.ensures.place;
      fits = c.ranges.value.fits;
    })
    c.commit_word.ensures c.requires.mounted.exact refl refl refl refl c.requires.clear
