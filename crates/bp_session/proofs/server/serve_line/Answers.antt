use Rattle.bp_session.proofs.AheadLaws.{line_forgets}
use Rattle.bp_session.proofs.server.serve_line.Goals as goal

pub returns-clause-outcome : goal.returns-clause-outcome
returns-clause-outcome g c = line_forgets g.V.FileSystem.behaviour _ _ _ _ c.answer_alone.ensures.outcome
