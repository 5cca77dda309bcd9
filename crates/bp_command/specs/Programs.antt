-- The programs, and the arguments that ask for them.
use Rattle.std.specs.Prelude.{◌≡◌, ◌≢◌, ◌⊎◌, ℕ, ◌<◌, ◌≤◌, List, [], ◌∷◌, ◌++◌, Some, true, false, length, slice_index, codes, decimal}
use Rattle.std.specs.Str.Parse.{digits_value, without_leading_plus}
use Rattle.clap.specs.Words.{Row, Text, first_of, one_of}
use Rattle.clap.specs.ValueTests.{accepts}
use Rattle.clap.specs.declared.builder.value_parser.ValueParser.TheVariants as vp
use Rattle.bp_limits.specs.Limits.{max_file_blocks, max_turns, min_blocks}
use Rattle.bp_limits.specs.Numbers.{version_numbered}
use Rattle.bp_limits.specs.declared.version.Version.{Version}
use Rattle.bp_limits.specs.declared.version.Version.TheVariants.{One, Two, Three}
use Rattle.bp_command.specs.Commands.{IsTaken, subcommand_named}
use Rattle.bp_command.specs.declared.arguments.Program.{Program as Asked}
use Rattle.bp_command.specs.declared.arguments.Program.TheVariants.{Format, Run, Check, Play, Export}

pub data Program : Type 0 where
  -- The name of a file, its number of blocks, and its version.
  formats : List ℕ → ℕ → Version → Program
  runs : List ℕ → Program
  checks : List ℕ → Program
  -- The name of a file, the seed of the operations, and their number.
  plays : List ℕ → ℕ → ℕ → Program
  exports : List ℕ → Program

abbrev pub program_of : Asked → Program
program_of (Format name blocks version) = formats name.now blocks version
program_of (Run name) = runs name.now
program_of (Check name) = checks name.now
program_of (Play name seed count) = plays name.now seed count
program_of (Export name) = exports name.now

-- The greatest seed: each 64-bit number is a seed.
abbrev pub max_seed : ℕ
max_seed = 18446744073709551615

-- The numbers of the versions.
abbrev pub first_version : ℕ
first_version = 1

abbrev pub last_version : ℕ
last_version = 3

-- The number of blocks of a format is one that an image may have; the seed and the count of a play are in range.
abbrev pub HasNumbersInRange : Program → Type 0
HasNumbersInRange (formats name blocks version) = (min_blocks ≤ blocks) × (blocks ≤ max_file_blocks)
HasNumbersInRange (runs name) = Unit {0}
HasNumbersInRange (checks name) = Unit {0}
HasNumbersInRange (plays name seed count) = (seed ≤ max_seed) × (count ≤ max_turns)
HasNumbersInRange (exports name) = Unit {0}

-- ---- plain arguments

-- A name that is not empty and does not begin with `-`, byte 45.
pub record IsFileName (name : List ℕ) : Type 0 where
  pub some : 0 < length name
  pub plain : slice_index name 0 ≢ 45

-- The arguments of a format, without its version.
abbrev pub format_words : List ℕ → ℕ → List (List ℕ)
format_words name blocks = codes "format" ∷ name ∷ codes "--blocks" ∷ decimal blocks ∷ []

abbrev pub version_words : Version → List (List ℕ)
version_words One = codes "--version" ∷ codes "1" ∷ []
version_words Two = codes "--version" ∷ codes "2" ∷ []
version_words Three = codes "--version" ∷ codes "3" ∷ []

-- The arguments of a program, after the name under which it was called.
abbrev pub program_words : Program → List (List ℕ)
program_words (formats name blocks version) = format_words name blocks ++ version_words version
program_words (runs name) = codes "run" ∷ name ∷ []
program_words (checks name) = codes "check" ∷ name ∷ []
program_words (plays name seed count) =
    codes "play" ∷ name ∷ codes "--seed" ∷ decimal seed ∷ codes "--count" ∷ decimal count ∷ []
program_words (exports name) = codes "export" ∷ name ∷ []

-- The arguments of a program, where a format of version 1 gives no version.
abbrev pub short_words : Program → List (List ℕ)
short_words (formats name blocks One) = format_words name blocks
short_words program = program_words program

abbrev pub IsProper : Program → Type 0
IsProper (formats name blocks version) = IsFileName name × (min_blocks ≤ blocks) × (blocks ≤ max_file_blocks)
IsProper (runs name) = IsFileName name
IsProper (checks name) = IsFileName name
IsProper (plays name seed count) = IsFileName name × (seed ≤ max_seed) × (count ≤ max_turns)
IsProper (exports name) = IsFileName name

-- The arguments ask for the program in the plain form.
pub record Asks (words : List (List ℕ)) (program : Program) : Type 0 where
  pub called : List ℕ
  pub are : (words ≡ called ∷ program_words program) ⊎ (words ≡ called ∷ short_words program)
  pub proper : IsProper program

-- ---- arguments that the command accepts

-- The values give an option a number in range, as digits.
pub record HasNumber (option : Text) (least most : ℕ) (rows : List Row) : Type 0 where
  pub digits : Text
  pub given : one_of option rows ≡ Some digits
  pub passes : accepts false (vp.Unsigned least most) digits ≡ true

-- The values of a program's subcommand: the name of a file, which is not empty; for a format a number of blocks and
-- the number of a version; for a play a seed and a count.
pub record HasValues (verb : Text) (rows : List Row) : Type 0 where
  pub program : (verb ≡ codes "format") ⊎ (verb ≡ codes "run") ⊎ (verb ≡ codes "check") ⊎ (verb ≡ codes "play")
      ⊎ (verb ≡ codes "export")
  pub name : Text
  pub named : first_of (codes "FILE") rows ≡ Some name
  pub some : 0 < length name
  pub blocks : verb ≡ codes "format" → HasNumber (codes "blocks") min_blocks max_file_blocks rows
  pub version : verb ≡ codes "format" → HasNumber (codes "version") first_version last_version rows
  pub seed : verb ≡ codes "play" → HasNumber (codes "seed") 0 max_seed rows
  pub count : verb ≡ codes "play" → HasNumber (codes "count") 0 max_turns rows

-- The arguments name a program's subcommand, and give its values.
pub record IsNamed (words : List Text) : Type 0 where
  pub verb : Text
  pub rows : List Row
  pub is : subcommand_named words ≡ Some (verb, rows)
  pub has : HasValues verb rows

-- The values give an option this number, which is in range.
pub record GivesNumber (option : Text) (least most : ℕ) (rows : List Row) (number : ℕ) : Type 0 where
  pub digits : Text
  pub given : one_of option rows ≡ Some digits
  pub value : digits_value 10 (without_leading_plus digits) ≡ number
  pub at_least : least ≤ number
  pub at_most : number ≤ most

-- The number of blocks and the version of a format, and the seed and the count of a play.
abbrev pub AsksForBlocks : List Row → ℕ → Type 0
AsksForBlocks rows blocks = GivesNumber (codes "blocks") min_blocks max_file_blocks rows blocks

pub record AsksForVersion (rows : List Row) (version : Version) : Type 0 where
  pub number : ℕ
  pub gives : GivesNumber (codes "version") first_version last_version rows number
  pub is : version ≡ version_numbered number

abbrev pub HasSeed : List Row → ℕ → Type 0
HasSeed rows seed = GivesNumber (codes "seed") 0 max_seed rows seed

abbrev pub HasCount : List Row → ℕ → Type 0
HasCount rows count = GivesNumber (codes "count") 0 max_turns rows count

-- A subcommand with these values asks for the program.
abbrev pub Names : Text → List Row → Program → Type 0
Names verb rows (formats name blocks version) =
    (verb ≡ codes "format") × (first_of (codes "FILE") rows ≡ Some name) × AsksForBlocks rows blocks
    × AsksForVersion rows version
Names verb rows (runs name) = (verb ≡ codes "run") × (first_of (codes "FILE") rows ≡ Some name)
Names verb rows (checks name) = (verb ≡ codes "check") × (first_of (codes "FILE") rows ≡ Some name)
Names verb rows (plays name seed count) =
    (verb ≡ codes "play") × (first_of (codes "FILE") rows ≡ Some name) × HasSeed rows seed × HasCount rows count
Names verb rows (exports name) = (verb ≡ codes "export") × (first_of (codes "FILE") rows ≡ Some name)

-- The command accepts the arguments, and the subcommand that they name asks with its values for the program.
pub record Requests (words : List Text) (program : Program) : Type 0 where
  pub taken : IsTaken words
  pub verb : Text
  pub rows : List Row
  pub is : subcommand_named words ≡ Some (verb, rows)
  pub names : Names verb rows program
