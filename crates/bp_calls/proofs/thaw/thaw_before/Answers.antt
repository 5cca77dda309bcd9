use Rattle.bp_calls.proofs.ThawedParts.{thaws_for}
use Rattle.bp_thaw.specs.Thaws.{paths_in}
use Rattle.bp_calls.proofs.thaw.thaw_before.Goals as goal

pub returns-in-Ok-clause-thaws : goal.returns-in-Ok-clause-thaws
returns-in-Ok-clause-thaws g c =
    thaws_for g.R.Region.memory (paths_in c.args.targets.now) c.args.parts.now c.requires.mounted c.thaw.new.parts c.thaw.ensures.thaws c.thaw.ensures.keeps.block_room c.thaw.ensures.keeps.free_inodes c.thaw.ensures.keeps.link_counts c.thaw.ensures.keeps.snapshot_blocks
