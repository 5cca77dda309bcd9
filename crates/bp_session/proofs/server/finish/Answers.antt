use Rattle.std.proofs.Common.{[], ◌∷◌, List, ℕ, ◌≡◌, ◌<◌, length, rules, arith}
use Rattle.std.proofs.lemmas.List.{nil_from_length}
use Rattle.bp_script.specs.Commands.{command_of}
use Rattle.bp_session.specs.Lines.{commands_from}
use Rattle.bp_session.proofs.OutcomeLaws.{line_nothing}
use Rattle.bp_session.proofs.ServingLaws.{commands_at_end}
use Rattle.bp_session.proofs.server.finish.Goals as goal

last : (line : List ℕ) → 0 < length line → commands_from line [] ≡ command_of line ∷ []
last [] some = absurd (omega arith)
last (x ∷ line) some = commands_at_end x line

pub returns-then-is_empty : goal.returns-then-is_empty
returns-then-is_empty g c =
    let empty = nil_from_length c.args.work.now.buffers.line.items (search rules) in
    rw empty (line_nothing g.V.FileSystem.behaviour _)

pub returns : goal.returns
returns g c =
    let some : 0 < length c.args.work.now.buffers.line.items = search rules in
    rw (last c.args.work.now.buffers.line.items some) c.answer_alone.ensures.outcome
