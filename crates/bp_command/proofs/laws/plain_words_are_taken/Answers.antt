use Rattle.bp_command.proofs.Plain.{plain_taken}
use Rattle.bp_command.proofs.PlainOnly.{plain_only}
use Rattle.bp_command.proofs.laws.plain_words_are_taken.Goals as goal

pub returns-clause-taken : goal.returns-clause-taken
returns-clause-taken c = plain_taken

pub returns-clause-requested : goal.returns-clause-requested
returns-clause-requested c = plain_only
