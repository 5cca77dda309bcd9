use Rattle.bp_free.specs.Set.{Fills}
use Rattle.bp_free.proofs.numbers.Numbers.fill_singly.Given as goal

abbrev pub invariant-loop-i : goal.invariant-loop-i
invariant-loop-i g l = Fills l.from l.i l.initial.self l.self
