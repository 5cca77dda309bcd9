use Rattle.bp_script.proofs.CallLines.{path_word-decoded}
use Rattle.bp_script.proofs.laws.path_words_are_decoded.Goals as goal

pub returns : goal.returns
returns c = λ text bytes. path_word-decoded text bytes
