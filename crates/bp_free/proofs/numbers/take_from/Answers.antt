use Rattle.std.proofs.Common.{◌∙◌, ap, length}
use Rattle.bp_free.proofs.Summary.{none_used, none_before}
use Rattle.bp_free.proofs.Words.{least_seen}
use Rattle.bp_free.proofs.numbers.take_from.Goals as goal

pub unreachable-requires : goal.unreachable-requires
unreachable-requires g c =
    c.if-count-eq0.false (c.requires.number ∙ ap length (none_used _ _ c.requires.summary c.in_default.ensures.least))

pub returns-clause-least : goal.returns-clause-least
returns-clause-least g c = (
  least_seen _ c.in-Some.word _ (none_before _ _ c.in-Some.word c.requires.summary c.in-Some.ensures.least) c.in-Some-first_in_word.ensures.least,
  c.remove_from.ensures.free,
)
