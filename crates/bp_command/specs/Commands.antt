-- The command line of the program, in terms of `clap`.
use Rattle.bp_limits.specs.Limits.{max_file_blocks, min_blocks}
use Rattle.std.specs.Prelude.{◌≡◌, ◌∷◌, [], ⊤, false, Option, List, Some, true, codes}
use Rattle.clap.specs.declared.builder.command.Command.TheViews.{out-Command}
use Rattle.clap.specs.declared.builder.arg.Arg.{Arg}
use Rattle.clap.specs.declared.builder.command.Command.{Command}
use Rattle.clap.specs.declared.parser.matches.ArgMatches.{ArgMatches}
use Rattle.clap.specs.declared.error.Error.{Error}
use Rattle.clap.specs.Words.{Row, IsAmong, fault_of, kind_of, subcommand_of, HasMatchesOf, app_of, rule_of, App, Rule, Text, new_app, new_rule, with_rule, with_subcommand}
use Rattle.clap.specs.declared.builder.value_parser.ValueParser.TheVariants as vp
use Rattle.bp_command.specs.declared.arguments.WordsFault.{WordsFault}
use Rattle.bp_command.specs.declared.arguments.WordsFault.TheVariants.{Usage, Memory}

abbrev pub file_rule : Rule
file_rule = record (new_rule (codes "FILE")) { required = true; parser = Some vp.NonEmptyString }

abbrev pub blocks_rule : Rule
blocks_rule = record (new_rule (codes "blocks")) {
  long = Some (codes "blocks");
  value_names = 1;
  required = true;
  parser = Some (vp.Unsigned min_blocks max_file_blocks);
}

-- The version of a new file system, 1 if the arguments give none.
abbrev pub version_rule : Rule
version_rule = record (new_rule (codes "version")) {
  long = Some (codes "version");
  value_names = 1;
  defaults = codes "1" ∷ [];
  parser = Some (vp.Unsigned 1 3);
}

abbrev pub format_app : App
format_app = with_rule (with_rule (with_rule (new_app (codes "format")) file_rule) blocks_rule) version_rule

abbrev pub seed_rule : Rule
seed_rule = record (new_rule (codes "seed")) {
  long = Some (codes "seed");
  value_names = 1;
  required = true;
  parser = Some (vp.Unsigned 0 18446744073709551615);
}

abbrev pub count_rule : Rule
count_rule = record (new_rule (codes "count")) {
  long = Some (codes "count");
  value_names = 1;
  required = true;
  parser = Some (vp.Unsigned 0 1000000);
}

abbrev pub run_app : App
run_app = with_rule (new_app (codes "run")) file_rule

abbrev pub check_app : App
check_app = with_rule (new_app (codes "check")) file_rule

abbrev pub play_app : App
play_app = with_rule (with_rule (with_rule (new_app (codes "play")) file_rule) seed_rule) count_rule

abbrev pub export_app : App
export_app = with_rule (new_app (codes "export")) file_rule

abbrev pub bare_app : App
bare_app = let a = new_app (codes "bpfs") in record a { top = record a.top { subcommand_required = true } }

abbrev pub bpfs_app : App
bpfs_app = with_subcommand (with_subcommand (with_subcommand (with_subcommand (with_subcommand bare_app format_app.top)
    run_app.top) check_app.top) play_app.top) export_app.top

pub record IsArgument (r : Rule) (a : Arg) : Type 0 where
  pub rule : rule_of a ≡ r
  pub local : a.global ≡ false

pub record IsCommand (a : App) (c : Command) : Type 0 where
  pub app : app_of c ≡ a
  pub local : (out-Command c).has_globals ≡ false

-- The command accepts the arguments: by `clap`'s own definition of simple commands they have no fault.
unfoldable pub IsTaken : List Text → Type 0
IsTaken words = fault_of bpfs_app words ≡ []

-- The error is of a kind that `clap`'s definition finds in the arguments.
unfoldable pub IsRefusedBy : List Text → Error → Type 0
IsRefusedBy words error = IsAmong (kind_of error) (fault_of bpfs_app words)

-- Arguments reported as no command are none, and the reported error is of a kind that is found in them.
abbrev pub IsRight : List Text → WordsFault → Type 0
IsRight words (Usage error) = (¬ IsTaken words) × IsRefusedBy words error
IsRight words Memory = ⊤

-- The subcommand that the arguments name, with the values that they give to its arguments.
unfoldable pub subcommand_named : List Text → Option (Text × List Row)
subcommand_named words = subcommand_of bpfs_app words

-- The matches are those of the arguments.
unfoldable pub HasMet : List Text → ArgMatches → Type 0
HasMet words m = HasMatchesOf bpfs_app words m
