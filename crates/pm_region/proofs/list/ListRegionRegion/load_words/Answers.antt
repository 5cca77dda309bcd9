use Rattle.std.proofs.Common.{arith}
use Rattle.std.proofs.lemmas.Grind.{common_steps}
use Rattle.pm_epochs.proofs.CrashLaws.{length-words_after}
use Rattle.pm_region.proofs.list.ListRegionRegion.load_words.Goals as goal

pub slice_bounds-result-end : goal.slice_bounds-result-end
slice_bounds-result-end c = grind (arith, common_steps, length-words_after)
