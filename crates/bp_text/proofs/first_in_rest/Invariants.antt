use Rattle.memchr.specs.Find.{Nowhere, Passes, is_byte2}
use Rattle.bp_text.proofs.first_in_rest.Given as goal

abbrev pub invariant-loop-i : goal.invariant-loop-i
invariant-loop-i l = Nowhere (Passes (is_byte2 l.one l.other) l.text) l.from l.i
