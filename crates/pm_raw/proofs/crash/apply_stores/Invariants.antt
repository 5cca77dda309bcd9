use Rattle.std.proofs.Common.{◌≡◌, ◌+◌, drop}
use Rattle.pm_epochs.specs.Log.{words_after}
use Rattle.pm_epochs.specs.Replay.{stores_of}
use Rattle.pm_region.specs.Memory.{stores_from}
use Rattle.pm_raw.proofs.crash.apply_stores.Given as goal

abbrev pub invariant-loop-i : goal.invariant-loop-i
invariant-loop-i l =
    words_after l.words (stores_of 0 (drop l.i l.mask) (stores_from (l.word + l.i) (drop l.i l.values)))
    ≡ words_after l.fn.words (stores_of 0 l.mask (stores_from l.word l.values))
