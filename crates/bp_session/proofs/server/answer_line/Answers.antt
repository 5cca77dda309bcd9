use Rattle.std.proofs.Common.{◌∙◌}
use Rattle.bp_session.proofs.AheadLaws.{line_reported, line_unreported}
use Rattle.bp_session.proofs.server.answer_line.Goals as goal

pub returns-in-Ok-clause-outcome : goal.returns-in-Ok-clause-outcome
returns-in-Ok-clause-outcome g c =
    line_reported g.V.FileSystem.behaviour _ _ _ _ _ c.act_and_save.ensures.size c.act_and_save.ensures.capacity c.act_and_save.ensures.attached c.act_and_save.ensures.others c.in_ok-outcome.ensures.flushed
    (record { reply = _; does = c.in_ok-outcome.ensures.does; waits = _; taken = _; clears = c.in_ok-outcome.ensures.clears }) c.in-Ok.ensures.all (c.in-Ok.ensures.cause.same ∙ c.in_ok-outcome.ensures.sink) c.in_ok-outcome.ensures.files

pub returns-in-Err-clause-outcome : goal.returns-in-Err-clause-outcome
returns-in-Err-clause-outcome g c =
    line_unreported g.V.FileSystem.behaviour _ _ _ _ _ c.act_and_save.ensures.size c.act_and_save.ensures.capacity c.act_and_save.ensures.attached c.act_and_save.ensures.others c.in_ok-outcome.ensures.flushed
    (record { reply = _; does = c.in_ok-outcome.ensures.does; waits = _; taken = _; clears = c.in_ok-outcome.ensures.clears }) c.in-Err.ensures.some (rw c.in_ok-outcome.ensures.sink at c.in-Err.ensures.cause.failed) c.in_ok-outcome.ensures.files
