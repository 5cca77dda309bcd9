use Rattle.std.proofs.Common.{length}
use Rattle.bp_calls.specs.WritesFile.{WritesFile}
use Rattle.bp_calls.proofs.CommitLaws.{commits_at_once}
use Rattle.bp_calls.proofs.SameWrites.{write_at_once}
use Rattle.bp_layout.specs.Need.Change.{writes}
use Rattle.bp_calls.proofs.writes.write.Goals as goal

pub write_longer-requires-clause-can : goal.write_longer-requires-clause-can
write_longer-requires-clause-can g c =
    write_at_once g.R.Region.memory c.args.parts.now c.args.ino c.args.offset c.args.bytes.now c.requires.mounted c.requires.can (c.is_clear.ensures c.if-is_clear.true) c.requires.room

pub returns-then-is_clear : goal.returns-then-is_clear
returns-then-is_clear g c =
    commits_at_once g.R.Region.memory (writes c.args.ino c.args.offset (length c.args.bytes.now)) (WritesFile c.args.ino c.args.offset c.args.bytes.now) c.args.parts.now c.write_longer.new.parts c.requires.mounted (c.is_clear.ensures c.if-is_clear.true)
    c.write_longer.result c.write_longer.ensures
