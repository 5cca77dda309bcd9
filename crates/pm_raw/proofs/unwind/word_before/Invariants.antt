use Rattle.std.proofs.Common.{◌≡◌, get_or, length}
use Rattle.pm_raw.specs.Unwound.{base_from}
use Rattle.pm_raw.proofs.unwind.word_before.Given as goal

abbrev pub invariant-loop-rest : goal.invariant-loop-rest
invariant-loop-rest l = get_or (base_from l.words l.rest) l.word 0 ≡ get_or (base_from l.words l.fn.undos) l.word 0

-- fewer events are left
abbrev pub decreases-loop-rest : goal.decreases-loop-rest
decreases-loop-rest l = length l.rest
