use Rattle.bp_shell.proofs.ExportingLaws.{reports_all, reports_deep, reports_prefix, reports_part}
use Rattle.bp_shell.proofs.SeeingLaws.{seen-mounted}
use Rattle.bp_shell.proofs.export.report_tree.Goals as goal

pub export-requires-clause-inodes : goal.export-requires-clause-inodes
export-requires-clause-inodes g c = rw (seen-mounted c.args.region.now c.requires.seen) c.requires.inodes

pub returns-in-Ok : goal.returns-in-Ok
returns-in-Ok g c = λ tree stands. reports_all tree _ _ _ (c.in-Ok.ensures tree (rw (seen-mounted c.args.region.now c.requires.seen) stands))

pub returns-in-Err-Memory : goal.returns-in-Err-Memory
returns-in-Err-Memory g c = λ tree stands.
    reports_prefix tree _ _ (rw c.in-Err-Memory.field-0-is at (c.in-Err-Memory.ensures tree (rw (seen-mounted c.args.region.now c.requires.seen) stands)))

pub returns-in-Err-Sink : goal.returns-in-Err-Sink
returns-in-Err-Sink g c = λ tree stands.
    reports_part tree _ _ (rw c.in-Err-Sink.field-0-is at (c.in-Err-Sink.ensures tree (rw (seen-mounted c.args.region.now c.requires.seen) stands)))

pub returns-in-Err-Deep : goal.returns-in-Err-Deep
returns-in-Err-Deep g c = λ tree stands.
    reports_deep tree _ _ _ (rw c.in-Err-Deep.field-0-is at (c.in-Err-Deep.ensures tree (rw (seen-mounted c.args.region.now c.requires.seen) stands))) c.report_notice.ensures
