use Rattle.std.proofs.Common.{◌+◌, ◌∙◌}
use Rattle.bp_append.proofs.GivenWords.{given_over}
use Rattle.bp_append.proofs.bytes.given_in.Goals as goal

pub returns : goal.returns
returns c = λ k few. c.word.ensures k few ∙ given_over c.args.from c.args.bytes.now (c.args.start + k) k
