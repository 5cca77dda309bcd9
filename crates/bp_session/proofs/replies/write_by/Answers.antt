use Rattle.bp_replies.proofs.PassingLaws.{passed_handed, passed_part_of}
use Rattle.bp_session.proofs.replies.write_by.Goals as goal

pub returns-clause-all : goal.returns-clause-all
returns-clause-all g c = passed_handed c.hand_over_above.result _ _ _ _ _ _ _ c.in_ok-report.ensures.all c.hand_over_above.ensures.all

pub returns-clause-some : goal.returns-clause-some
returns-clause-some g c = passed_part_of c.hand_over_above.result _ _ _ _ _ _ c.in_ok-report.ensures.all c.hand_over_above.ensures.some
