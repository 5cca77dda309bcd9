use Rattle.bp_scan.specs.Others.{LosesBelow}
use Rattle.bp_scan.proofs.whole.take_out.Given as goal

abbrev pub invariant-loop-block : goal.invariant-loop-block
invariant-loop-block l = LosesBelow l.lost l.initial.blocks l.blocks l.block
