use Rattle.pm_region.specs.Memory.{current_words}
use Rattle.bp_samples.proofs.hints.what_is_not_found_is_not_learned.Goals as goal

-- hints that know nothing are right for any image
pub walk_with-answer-requires-clause-right : goal.walk_with-answer-requires-clause-right
walk_with-answer-requires-clause-right g c = c.nothing_known-hints.ensures (current_words c.deep-region.result)
