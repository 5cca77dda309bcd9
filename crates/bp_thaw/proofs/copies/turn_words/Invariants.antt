use Rattle.std.proofs.Common.{take}
use Rattle.bp_thaw.specs.Copies.{AreTurned}
use Rattle.bp_thaw.proofs.copies.turn_words.Given as goal

abbrev pub invariant-loop-i : goal.invariant-loop-i
invariant-loop-i l = record { turned : AreTurned (take l.i l.copies.items) l.block l.fn.words l.words }
