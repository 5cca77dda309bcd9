use Rattle.std.proofs.Common.{arith}
use Rattle.std.proofs.lemmas.Grind.{common_steps}
use Rattle.pm_epochs.proofs.WordLaws.{slice_index-words_after}
use Rattle.pm_region.proofs.list.ListRegionRegion.word_at.Goals as goal

pub returns : goal.returns
returns c = grind (arith, common_steps, slice_index-words_after)
