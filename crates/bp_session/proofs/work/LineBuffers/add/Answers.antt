use Rattle.std.proofs.Common.{rules, ap, sym, ◌∙◌, ◌≡◌, ◌+◌, ◌-◌, ◌++◌, length, take}
use Rattle.std.proofs.Math.Seq.{take-append-add}
use Rattle.bp_limits.specs.Limits.{max_line}
use Rattle.bp_session.proofs.BlockLaws.{take_least}
use Rattle.bp_session.proofs.work.LineBuffers.add.Goals as goal

pub returns-clause-line : goal.returns-clause-line
returns-clause-line c =
    let line = c.args.self.now.line.items in
    let left = max_line + 1 - length line in
    let all : length line + left ≡ max_line + 1 = search rules in
    c.in-Ok.ensures.items ∙ ap (λ l. line ++ l) (take_least c.args.bytes.now _ left (search rules)) ∙ sym (take-append-add line c.args.bytes.now left) ∙ ap (λ n. take n (line ++ c.args.bytes.now)) all
