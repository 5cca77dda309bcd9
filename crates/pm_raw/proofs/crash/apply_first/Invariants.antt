use Rattle.std.proofs.Common.{◌≡◌, length}
use Rattle.pm_epochs.specs.Log.{words_after}
use Rattle.pm_epochs.specs.Replay.{stores_of}
use Rattle.pm_raw.proofs.crash.apply_first.Given as goal

abbrev pub invariant-loop-rest : goal.invariant-loop-rest
invariant-loop-rest l = words_after l.words (stores_of 0 l.mask l.rest) ≡ words_after l.fn.words (stores_of 0 l.fn.mask l.fn.log)

-- fewer events are left
abbrev pub decreases-loop-rest : goal.decreases-loop-rest
decreases-loop-rest l = length l.rest
