use Rattle.std.proofs.Common.{◌-◌, ◌≤◌}
use Rattle.bp_append.proofs.LaidRuns.{LaidTo}
use Rattle.bp_append.proofs.lay.lay.Given as goal

abbrev pub invariant-loop-index : goal.invariant-loop-index
invariant-loop-index g l =
    let memory = g.R.Region.memory in
    record {
      most : l.index ≤ 512;
      laid : LaidTo (memory l.fn.region) (memory l.region) l.block l.start l.low l.high l.from l.layer.bytes.now l.index;
    }

abbrev pub decreases-loop-index : goal.decreases-loop-index
decreases-loop-index g l = l.end - l.index
