use Rattle.std.proofs.Common.{length}
use Rattle.bp_path.proofs.BelowLaws.{IsLeft}
use Rattle.bp_path.proofs.names.is_below.Given as goal

abbrev pub invariant-loop-above : goal.invariant-loop-above
invariant-loop-above l = IsLeft l.fn.above l.fn.text l.above l.text

abbrev pub decreases-loop-above : goal.decreases-loop-above
decreases-loop-above l = length l.above
