use Rattle.std.proofs.Common.{rules, ◌∙◌, ◌≡◌, ◌+◌, ◌-◌, ◌++◌, sym, ap, take, drop}
use Rattle.bp_limits.specs.Limits.{max_line}
use Rattle.bp_session.specs.Lines.{commands_from}
use Rattle.bp_session.proofs.Runs.{commands_of_part}
use Rattle.bp_session.proofs.server.take_run.Goals as goal

pub returns-clause-same : goal.returns-clause-same
returns-clause-same c rest =
    let line = c.args.work.now.buffers.line.items in
    let all = c.args.work.now.piece.items in
    let whole : c.deref.result.now ≡ all = search rules in
    let kept : c.add.new.self.line.items ≡ take (max_line + 1) (line ++ take (c.args.to - c.args.from) (drop c.args.from all)) =
    c.add.ensures.line ∙ ap (λ l. take (max_line + 1) (line ++ take (c.args.to - c.args.from) (drop c.args.from l))) whole in
    commands_of_part all c.args.from c.args.to (search rules) line rest c.requires.quiet ∙ ap (λ l. commands_from l rest) (sym kept)
