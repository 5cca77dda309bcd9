use Rattle.bp_command.proofs.Taken.{taken_values}
use Rattle.bp_command.proofs.laws.taken_words_have_values.Goals as goal

pub returns : goal.returns
returns c = taken_values
