use Rattle.std.proofs.Common.{arith}
use Rattle.bp_spelling.proofs.PastEnd.{past_end}
use Rattle.bp_spelling.proofs.name_words.word_at.Goals as goal

pub returns-else-place-words : goal.returns-else-place-words
returns-else-place-words g c = past_end (g.R.Region.memory c.args.region.now) c.args.place (omega (arith, c.if-place-words.false, c.words.ensures.count))
