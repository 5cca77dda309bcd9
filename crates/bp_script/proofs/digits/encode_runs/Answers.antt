use Rattle.std.proofs.Common.{arith}
use Rattle.bp_script.proofs.EncodedRuns.{run_written, runs_written}
use Rattle.bp_script.proofs.digits.encode_runs.Goals as goal

pub loop-i-preserved : goal.loop-i-preserved
loop-i-preserved c =
    run_written c.args.content.now c.loop-i.into c.encode_run.result.0 c.encode_run.result.1 c.loop-i.i
    c.encode_run.ensures.first c.encode_run.ensures.second (omega arith) (omega arith) c.encode_run.ensures.digits c.loop-i.invariant

pub returns : goal.returns
returns c = runs_written c.args.content.now c.loop-i.into c.loop-i.i (omega arith) (omega arith) c.loop-i.invariant
