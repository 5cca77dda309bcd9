use Rattle.bp_session.proofs.PlainLaws.{plain_session}
use Rattle.bp_session.proofs.laws.sessions_stay_plain.Goals as goal

pub returns : goal.returns
returns c = λ old new plain commands replies follows session.
    let run = plain_session old plain commands replies new follows session in
    (run.plain, run.session, run.follows)
