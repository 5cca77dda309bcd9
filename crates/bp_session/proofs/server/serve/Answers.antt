use Rattle.bp_session.proofs.AheadLaws.{serve_forgets}
use Rattle.bp_session.proofs.server.serve.Goals as goal

pub returns-clause-outcome : goal.returns-clause-outcome
returns-clause-outcome g c = serve_forgets g.V.FileSystem.behaviour _ _ _ _ _ _ c.serve_by.ensures.outcome
