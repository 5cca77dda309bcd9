use Rattle.bp_session.specs.PlainSession.{fresh}
use Rattle.bp_session.proofs.PlainLaws.{plain_session, follows_fresh}
use Rattle.bp_session.proofs.laws.crashes_keep_calls.Goals as goal

pub returns : goal.returns
returns c = λ old new tree commands replies empty stands session.
    let run = plain_session old (fresh tree) commands replies new (follows_fresh old.system tree empty stands) session in
    (run.plain, run.session, run.follows.crash)
