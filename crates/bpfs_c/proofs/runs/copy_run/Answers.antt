use Rattle.std.proofs.Common.{arith}
use Rattle.bpfs_c.specs.Runs.HasPiece.{some}
use Rattle.bpfs_c.proofs.runs.copy_run.Goals as goal

pub returns : goal.returns
returns c = some c.run_at.result (omega arith) c.run_at.ensures c.report_run.ensures.reported c.report_run.ensures.count
