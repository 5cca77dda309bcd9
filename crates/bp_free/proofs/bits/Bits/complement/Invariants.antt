use Rattle.bp_free.proofs.Complement.{IsMidway}
use Rattle.bp_free.proofs.bits.Bits.complement.Given as goal

abbrev pub invariant-loop-word : goal.invariant-loop-word
invariant-loop-word l = IsMidway l.other l.self l.words_in_use l.word
