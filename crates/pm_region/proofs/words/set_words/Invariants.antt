use Rattle.std.proofs.Common.{◌≡◌, take}
use Rattle.pm_epochs.specs.Log.{words_after}
use Rattle.pm_region.specs.Memory.{stores_from}
use Rattle.pm_region.proofs.words.set_words.Given as goal

abbrev pub invariant-loop-i : goal.invariant-loop-i
invariant-loop-i l = l.words ≡ words_after l.fn.words (stores_from l.first (take l.i l.values))
