use Rattle.std.proofs.Common.{rules}
use Rattle.pm_words.proofs.laws.bytes_from_word.Goals as goal
use Rattle.pm_words.proofs.Bytes.{bytes_word_of}

pub returns : goal.returns
returns c = bytes_word_of c.args.bytes.now (search rules) (search rules)
