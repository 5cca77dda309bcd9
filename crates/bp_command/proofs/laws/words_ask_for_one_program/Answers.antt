use Rattle.bp_command.proofs.Once.{requested_once}
use Rattle.bp_command.proofs.laws.words_ask_for_one_program.Goals as goal

pub returns : goal.returns
returns c = requested_once
