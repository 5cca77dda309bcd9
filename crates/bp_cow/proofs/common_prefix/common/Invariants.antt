use Rattle.std.proofs.Common.{◌≡◌}
use Rattle.bp_changes.specs.Trail.{trail_of}
use Rattle.bp_cow.proofs.common_prefix.common.Given as goal

abbrev pub invariant-loop-depth : goal.invariant-loop-depth
invariant-loop-depth l = trail_of l.these l.depth ≡ trail_of l.those l.depth
