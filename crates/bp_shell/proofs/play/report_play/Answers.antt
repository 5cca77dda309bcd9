use Rattle.bp_shell.proofs.PlayingLaws.{plays_file}
use Rattle.bp_shell.proofs.play.report_play.Goals as goal

pub returns-in-Ok-text_of-clause-plays : goal.returns-in-Ok-text_of-clause-plays
returns-in-Ok-text_of-clause-plays g c = λ known image found same.
    plays_file known image _ _ _ _ _ _ _ found same c.in-Ok.ensures c.in-Ok-text_of.ensures
