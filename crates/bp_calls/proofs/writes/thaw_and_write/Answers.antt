use Rattle.std.proofs.Common.{length}
use Rattle.bp_calls.specs.WritesFile.{WritesFile}
use Rattle.bp_calls.proofs.CommitLaws.{commits_thawed, lacking_space}
use Rattle.bp_calls.proofs.SameWrites.{write_after_thaw}
use Rattle.bp_calls.proofs.ThawedParts.{mounted_thawed}
use Rattle.bp_layout.specs.Need.Change.{writes}
use Rattle.bp_calls.proofs.writes.thaw_and_write.Goals as goal

pub write_thawed-requires-clause-can : goal.write_thawed-requires-clause-can
write_thawed-requires-clause-can g c =
    write_after_thaw g.R.Region.memory c.args.parts.now c.thaw_write.new.parts c.requires.mounted c.args.ino c.args.offset c.args.bytes.now c.requires.can c.in-Ok.ensures.thaws c.in-Ok.ensures.room

pub write_thawed-requires-clause-exact : goal.write_thawed-requires-clause-exact
write_thawed-requires-clause-exact g c =
    (mounted_thawed g.R.Region.memory (writes c.args.ino c.args.offset (length c.args.bytes.now)) c.args.parts.now c.thaw_write.new.parts c.requires.mounted c.requires.can.reached c.in-Ok.ensures.thaws).exact

pub returns-in-Ok : goal.returns-in-Ok
returns-in-Ok g c =
    commits_thawed g.R.Region.memory (writes c.args.ino c.args.offset (length c.args.bytes.now)) (WritesFile c.args.ino c.args.offset c.args.bytes.now) c.args.parts.now c.thaw_write.new.parts c.write_thawed.new.parts c.requires.mounted c.requires.can.reached c.in-Ok.ensures.thaws
    c.in-Ok.ensures.enough c.write_thawed.result c.write_thawed.ensures

pub returns-in-Err : goal.returns-in-Err
returns-in-Err g c = lacking_space g.R.Region.memory c.args.parts.now c.thaw_write.new.parts c.requires.mounted.exact c.in-Err.ensures.refused c.in-Err.ensures.same
