use Rattle.bp_layout.proofs.HintLaws.{right-empty}
use Rattle.bp_samples.proofs.hints.who_knows_nothing_is_led_by_the_directories.Goals as goal

pub walk_with-requires-clause-right : goal.walk_with-requires-clause-right
walk_with-requires-clause-right g c = right-empty _
