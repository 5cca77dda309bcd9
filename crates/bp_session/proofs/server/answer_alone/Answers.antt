use Rattle.std.proofs.Common.{◌≤◌, length, arith}
use Rattle.std.proofs.lemmas.List.{nil_from_length}
use Rattle.bp_replies.specs.Gathering.{waiting}
use Rattle.bp_session.proofs.AheadLaws.{line_alone}
use Rattle.bp_session.proofs.OutcomeLaws.{where_whole}
use Rattle.bp_session.proofs.server.answer_alone.Goals as goal

pub returns-clause-outcome : goal.returns-clause-outcome
returns-clause-outcome g c =
    line_alone g.V.FileSystem.behaviour _ _ _ _ (waiting c.answer_line.new.work.buffers.replies)
    (λ e. nil_from_length (waiting c.answer_line.new.work.buffers.replies) (let few : length (waiting c.answer_line.new.work.buffers.replies) ≤ 0 = where_whole c.answer_line.result c.answer_line.ensures.few e in omega (arith, few)))
    (rw c.clear.ensures at c.answer_line.ensures.outcome)

pub returns-clause-synced : goal.returns-clause-synced
returns-clause-synced g c = c.answer_line.ensures.synced c.clear.ensures
