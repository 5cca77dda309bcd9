use Rattle.std.proofs.Common.{◌≡◌, false, true}
use Rattle.std.specs.Prelude.{Some, None}
use Rattle.bp_command.proofs.Rows.{name_given}
use Rattle.clap.specs.Words.{found_of}
use Rattle.bp_command.proofs.arguments.name_of.Goals as goal

pub returns : goal.returns
returns c = name_given (found_of c.args.values.now) (Some c.in-Some.name.now) c.in-Some.ensures

pub unreachable-requires : goal.unreachable-requires
unreachable-requires c = let never : false ≡ true = rw (name_given (found_of c.args.values.now) None c.in-None.ensures) at c.requires in cc
