-- The plain words of a program, word by word: where the walk of its subcommand stands after each.
use Rattle.std.proofs.Common.{◌≡◌, ℕ, List, [], ◌∷◌, length, true, false, refl, sym, subst, arith, lt-ltb}
use Rattle.std.specs.Prelude.{Option, None, Some, fold, option_map, codes}
use Rattle.clap.specs.Faults.{check_fault, defaults_fault, level_fault, settle_fault, turn_fault, walk_fault}
use Rattle.clap.specs.Kinds.{Kinds, or_else}
use Rattle.clap.specs.Simple.{Shape}
use Rattle.clap.specs.Walk.{Row, Rule, Text, Waiting, Walk, finished, first_of, nothing_held, one_of, reading_by, settled, walk_from, walked}
use Rattle.clap.specs.ValueTests.{accepts}
use Rattle.clap.specs.declared.builder.value_parser.ValueParser.TheVariants as vp
use Rattle.clap.specs.declared.parser.matches.ValueSource.TheVariants.{CommandLine}
use Rattle.bp_command.proofs.Chains.{joined}

-- the texts of the number of blocks, of the version, of the seed and of the count
abbrev pub Numbers : Type 0
Numbers = Option Text × Option Text × Option Text × Option Text

abbrev pub numbers_of : List Row → Numbers
numbers_of rows = (one_of (codes "blocks") rows, one_of (codes "version") rows, one_of (codes "seed") rows, one_of (codes "count") rows)

-- what the words give, by the subcommand, the file's name, and the texts of numbers
abbrev pub parts : Option (Text × List Row) → Option (Text × Option Text × Numbers)
parts = option_map (λ p. (p.0, first_of (codes "FILE") p.1, numbers_of p.1))

-- a name that is not empty is one of a file
pub some_name : (x : ℕ) (xs : Text) → accepts false vp.NonEmptyString (x ∷ xs) ≡ true
some_name x xs = lt-ltb 0 (length (x ∷ xs)) (omega arith)

-- where the walk stands after the file's name
abbrev pub following : List Row → Text → List Text → Waiting → Walk
following rows id values waiting = record {
  held = record { rows = rows; pending = Some (id, values); skip = 0 };
  waiting = waiting;
  position = 2;
  is_trailing = false;
  stopped = None;
}

abbrev pub row : Rule → Text → Row
row a value = record { id = a.id; values = value ∷ []; count = None; source = Some CommandLine; reading = reading_by a }

module _ (s : Shape) where
  -- the walk goes over the word, and stands there then
  pub record Turn (old : Walk) (word : Text) (new : Walk) : Type 0 where
    pub passes : turn_fault s [] old word ≡ []
    pub goes : walked s.rules [] old word ≡ new

  -- and over words
  pub record Goes (old : Walk) (words : List Text) (new : Walk) : Type 0 where
    pub passes : walk_fault s [] old words ≡ []
    pub goes : fold (walked s.rules []) old words ≡ new

  pub stays : (w : Walk) → Goes w [] w
  unfolding walk_fault
  stays w = record { passes = refl; goes = refl }

  pub goes_on : (old middle new : Walk) (word : Text) (words : List Text) → Turn old word middle → Goes middle words new → Goes old (word ∷ words) new
  unfolding walk_fault
  goes_on old middle new word words turn rest = record {
    passes = joined _ _ turn.passes (subst (λ (w : Walk). walk_fault s [] w words ≡ []) (sym turn.goes) rest.passes);
    goes = subst (λ (w : Walk). fold (walked s.rules []) w words ≡ new) (sym turn.goes) rest.goes;
  }

  -- what the command finds wrong after a walk that stands here
  abbrev pub faults_after : Walk → Kinds
  faults_after w = or_else (settle_fault s.rules s.args_override_self w.held) (or_else (defaults_fault (settled s.rules w.held).rows s.rules) (check_fault s (finished s.rules w.held) false))

  -- a walk that goes over the words, and stands where nothing is wrong
  pub no_fault : (words : List Text) (last : Walk) → Goes (walk_from nothing_held) words last → faults_after last ≡ [] → level_fault s [] nothing_held words false [] ≡ []
  no_fault words last over none = joined _ _ over.passes (joined _ _ refl (subst (λ (w : Walk). faults_after w ≡ []) (sym over.goes) none))
