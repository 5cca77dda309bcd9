use Rattle.std.proofs.Common.{◌+◌, ◌-◌, sym, ◌∙◌, arith}
use Rattle.pm_words.specs.Bytes.{byte_of}
use Rattle.pm_words.proofs.OverlayLaws.{over_before, over_moved, shifted_over}
use Rattle.pm_words.proofs.overlay.Overlay.word.Goals as goal

pub returns-then-self-start : goal.returns-then-self-start
returns-then-self-start c = λ k few.
    c.word_over.ensures k few
    ∙ over_moved c.args.self.now.from c.args.self.now.bytes.now (c.args.start - c.args.self.now.from + k) (c.args.start + k) (byte_of c.args.old k) (omega (arith, c.if-self-start.true))

pub returns-then-self-start-lt8 : goal.returns-then-self-start-lt8
returns-then-self-start-lt8 c = λ k few.
    shifted_over c.join.result c.word_over-word.result c.args.old c.args.start c.args.self.now.from k c.args.self.now.bytes.now c.if-self-start.false c.join.ensures.lowest c.join.ensures.others
    c.word_over-word.ensures few

pub returns-else-self-start-lt8 : goal.returns-else-self-start-lt8
returns-else-self-start-lt8 c = λ k few. sym (over_before c.args.self.now.from c.args.self.now.bytes.now (c.args.start + k) (byte_of c.args.old k) (omega (arith, few, c.if-self-start-lt8.false)))
