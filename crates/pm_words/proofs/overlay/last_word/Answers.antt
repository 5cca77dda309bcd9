use Rattle.std.proofs.Common.{arith}
use Rattle.pm_words.proofs.OverlayLaws.{last-there}
use Rattle.pm_words.proofs.overlay.last_word.Goals as goal

pub returns-else-count-lt8 : goal.returns-else-count-lt8
returns-else-count-lt8 c = λ k few.
    last-there c.word_at.result c.args.at k c.args.bytes.now (omega (arith, c.word_at.type_inv)) c.if-count-lt8.false c.requires.begun c.requires.ended c.word_at.ensures
