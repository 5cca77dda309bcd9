use Rattle.std.proofs.Common.{◌≡◌, drop}
use Rattle.pm_epochs.specs.Log.{word_after}
use Rattle.pm_region.proofs.words.apply_to_word.Given as goal

abbrev pub invariant-loop-event : goal.invariant-loop-event
invariant-loop-event l = word_after l.now (drop l.event-index l.events) l.word ≡ word_after l.base l.events l.word
