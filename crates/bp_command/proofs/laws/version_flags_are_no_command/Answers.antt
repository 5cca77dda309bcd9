use Rattle.clap.proofs.OnLiterals.{clap_on_literals}
use Rattle.bp_command.specs.Commands.{IsTaken}
use Rattle.bp_command.proofs.laws.version_flags_are_no_command.Goals as goal

pub returns-clause-long : goal.returns-clause-long
unfolding IsTaken clap_on_literals
returns-clause-long c = λ called taken. cc

pub returns-clause-short : goal.returns-clause-short
unfolding IsTaken clap_on_literals
returns-clause-short c = λ called taken. cc
