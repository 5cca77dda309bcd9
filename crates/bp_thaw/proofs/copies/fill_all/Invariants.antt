use Rattle.std.proofs.Common.{take}
use Rattle.bp_thaw.proofs.CopySteps.{HasFilled}
use Rattle.bp_thaw.proofs.copies.fill_all.Given as goal

abbrev pub invariant-loop-i : goal.invariant-loop-i
invariant-loop-i g l = record { filled : HasFilled l.copies.items (take l.i l.copies.items) (g.R.Region.memory l.fn.region) (g.R.Region.memory l.region) }
