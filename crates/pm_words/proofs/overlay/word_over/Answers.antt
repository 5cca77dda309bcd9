use Rattle.std.proofs.Common.{◌+◌, ◌-◌, length, sym, ◌∙◌, arith, inl, inr}
use Rattle.std.proofs.lemmas.Bool.{cases_lt}
use Rattle.pm_words.specs.Bytes.{byte_of}
use Rattle.pm_words.proofs.OverlayLaws.{over_item, over_none}
use Rattle.pm_words.proofs.overlay.word_over.Goals as goal

pub returns-then-at-count : goal.returns-then-at-count
returns-then-at-count c = λ k few. c.word_at.ensures k few ∙ sym (over_item c.args.bytes.now (c.args.at + k) (byte_of c.args.old k) (omega (arith, few, c.if-at-count.true)))

pub returns-then-count-at : goal.returns-then-count-at
returns-then-count-at c = λ k few. sym (over_none c.args.bytes.now (c.args.at + k) (byte_of c.args.old k) (omega (arith, c.if-count-at.true)))

pub returns-else-count-at : goal.returns-else-count-at
returns-else-count-at c = λ k few. elim (cases_lt k (length c.args.bytes.now - c.args.at)) [
  | inl inside ↦
      c.join.ensures.lowest k inside ∙ c.last_word.ensures k few ∙ sym (over_item c.args.bytes.now (c.args.at + k) (byte_of c.args.old k) (omega (arith, inside)))
  | inr past ↦ c.join.ensures.others k past few ∙ sym (over_none c.args.bytes.now (c.args.at + k) (byte_of c.args.old k) (omega (arith, past, c.if-count-at.false)))
]
