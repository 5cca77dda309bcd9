use Rattle.std.proofs.Common.{◌≡◌, ◌+◌, ◌-◌, ◌*◌, get_or, sym, ◌∙◌, ap, arith}
use Rattle.bp_append.proofs.GivenWords.{late-word}
use Rattle.bp_append.proofs.LaidLaws.{given-there}
use Rattle.bp_append.proofs.lay.laid_run.Goals as goal

pub returns-then-at-count : goal.returns-then-at-count
returns-then-at-count c = λ k i low few.
    let at : c.args.start - c.args.layer.now.from + 8 * k + i ≡ c.args.start + 8 * k + i - c.args.layer.now.from = omega (arith, c.if-start-layer.false) in
    c.given_run.ensures k i low few
    ∙ ap (λ n. get_or c.args.layer.now.bytes.now n 0) at
    ∙ sym (given-there c.args.layer.now.from c.args.layer.now.bytes.now (c.args.start + 8 * k + i) (omega (arith, c.if-start-layer.false)))

pub returns-then-count-at : goal.returns-then-count-at
returns-then-count-at c = λ k i low few.
    late-word k i (c.args.start + 8 * k + i) c.args.layer.now.from c.args.layer.now.bytes.now low (omega (arith, c.if-start-layer.false)) (omega (arith, c.if-count-at.true, c.if-start-layer.false))
