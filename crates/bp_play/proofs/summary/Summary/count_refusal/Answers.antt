use Rattle.std.proofs.Common.{arith, ◌∙◌}
use Rattle.bp_play.proofs.SumLaws.{refusal_counted, refusal_uncounted}
use Rattle.bp_play.proofs.summary.Summary.count_refusal.Goals as goal

pub returns-then-number-le12 : goal.returns-then-number-le12
returns-then-number-le12 c = refusal_counted c.args.self.now _ c.from-number.result (c.from-number.ensures ∙ c.number.ensures) c.if-number-le12.true

pub returns-else-number-le12 : goal.returns-else-number-le12
returns-else-number-le12 c = refusal_uncounted c.args.self.now _ (omega (arith, c.from-number.ensures, c.number.ensures, c.if-number-le12.false))
