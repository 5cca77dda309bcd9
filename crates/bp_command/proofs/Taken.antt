-- Words that are taken name a program, and give it its values.
use Rattle.std.proofs.Common.{◌≡◌, ◌⊎◌, ◌∙◌, ◌&&◌, ◌||◌, Bool, true, false, not, cond, refl, sym, subst, arith, List, [], ◌∷◌, length, inl, inr, true≢false}
use Rattle.std.specs.Prelude.{Option, Some, None, codes, find, fold, is_some, option_map}
use Rattle.std.specs.Option.{option_map_or}
use Rattle.std.specs.Str.{bytes_eq}
use Rattle.std.proofs.lemmas.Bool.{ltb-true}
use Rattle.std.proofs.lemmas.Slice.Eq.{bytes_eq-Decides}
use Rattle.clap.specs.Faults.{check_fault, entered_fault, level_fault}
use Rattle.clap.specs.Kinds.{Kinds}
use Rattle.clap.specs.Simple.{Shape, argument_words, built, built_leaf, entered, filled, help_rule, inherited, label_of, marked_built, names_of, rows_at, with_index, with_leaf_noted}
use Rattle.clap.specs.Takes.{is_given}
use Rattle.clap.specs.Walk.{Row, Rule, Text, answers_to, arg_by_id, nothing_held, rows_after, settled, walk, walk_from, with_default}
use Rattle.clap.specs.declared.error.kind.ErrorKind.{ErrorKind}
use Rattle.bp_command.specs.Commands.{IsTaken, blocks_rule, bpfs_app, check_app, count_rule, export_app, file_rule, format_app, subcommand_named, play_app, run_app, seed_rule, version_rule}
use Rattle.bp_command.specs.Programs.{HasValues, IsNamed}
use Rattle.bp_command.proofs.Apart.{apart}
use Rattle.bp_command.proofs.Chains.{Each, both_empty, found_is}
use Rattle.bp_command.proofs.Checked.{HasValue, first_given, fit-level, has_value, last_checks, level_checks}
use Rattle.bp_command.proofs.Fitting.{AllFit, IsUsable}
use Rattle.bp_command.proofs.NoHelp.{is_help, stop_walk}
use Rattle.bp_command.proofs.RowsThere.{default_there, given_there, is_there, no_default}

abbrev pub built_of : Shape → Shape
built_of s = built_leaf (inherited (with_leaf_noted (marked_built bpfs_app.top)) s)

abbrev pub file_arg : Rule
file_arg = with_index 1 (filled file_rule)

abbrev pub blocks_arg : Rule
blocks_arg = with_index 2 (filled blocks_rule)

abbrev version_arg : Rule
version_arg = with_index 3 (filled version_rule)

abbrev pub seed_arg : Rule
seed_arg = with_index 2 (filled seed_rule)

abbrev count_arg : Rule
count_arg = with_index 3 (filled count_rule)

abbrev help_arg : Rule
help_arg = with_index 3 (filled help_rule)

usable_format : Each (IsUsable (built_of format_app.top)) (built_of format_app.top).rules
usable_format = (
  record { own = refl; serves = inl (refl, omega arith); defaults = refl },
  (
    record { own = refl; serves = inl (refl, omega arith); defaults = refl },
    (record { own = refl; serves = inl (refl, omega arith); defaults = refl }, (record { own = refl; serves = inr refl; defaults = refl }, tt)),
  ),
)

usable_run : Each (IsUsable (built_of run_app.top)) (built_of run_app.top).rules
usable_run = (record { own = refl; serves = inl (refl, omega arith); defaults = refl }, (record { own = refl; serves = inr refl; defaults = refl }, tt))

usable_check : Each (IsUsable (built_of check_app.top)) (built_of check_app.top).rules
usable_check = (record { own = refl; serves = inl (refl, omega arith); defaults = refl }, (record { own = refl; serves = inr refl; defaults = refl }, tt))

usable_export : Each (IsUsable (built_of export_app.top)) (built_of export_app.top).rules
usable_export = (record { own = refl; serves = inl (refl, omega arith); defaults = refl }, (record { own = refl; serves = inr refl; defaults = refl }, tt))

usable_play : Each (IsUsable (built_of play_app.top)) (built_of play_app.top).rules
usable_play = (
  record { own = refl; serves = inl (refl, omega arith); defaults = refl },
  (
    record { own = refl; serves = inl (refl, omega arith); defaults = refl },
    (record { own = refl; serves = inl (refl, omega arith); defaults = refl }, (record { own = refl; serves = inr refl; defaults = refl }, tt)),
  ),
)

accepted : (b : Bool) (k : ErrorKind) → cond b [] (k ∷ []) ≡ [] → b ≡ true
accepted true k e = refl
accepted false k e = absurd (cc)

-- the version is there, in the words or by default
version_there : (rows : List Row) → is_there (codes "version") (fold with_default rows (built_of format_app.top).rules) ≡ true
version_there rows =
    let above : List Row = with_default (with_default rows file_arg) blocks_arg in
    let after : List Row = with_default above version_arg in
    let last : with_default after help_arg ≡ after = no_default help_arg after refl in
    subst (λ (r : List Row). is_there (codes "version") r ≡ true) (sym last) (default_there version_arg (codes "1") [] above refl)

version_after : (words : List Text) → is_there (codes "version") (rows_after (built_of format_app.top).rules [] words) ≡ true
version_after words =
    let rules = (built_of format_app.top).rules in
    version_there (settled rules (walk rules [] nothing_held words).held).rows

-- what is known of the rows of a subcommand at which no fault was found
record IsChecked (s : Shape) (rows : List Row) : Type 0 where
  fit : AllFit s rows
  check : check_fault s rows false ≡ []

checked_level : (s : Shape) (words : List Text) → Each (IsUsable s) s.rules → level_fault s [] nothing_held words false [] ≡ [] →
    IsChecked s (rows_after s.rules [] words)
checked_level s words usable fault = record { fit = fit-level s [] words false [] fault usable; check = (level_checks s [] words false [] fault).1 }

-- its argument with an id has a value where it is given
value_given : {s : Shape} {rows : List Row} (id : Text) (a : Rule) → IsChecked s rows → arg_by_id s.rules id ≡ Some a → is_given id rows ≡ true →
    HasValue id a rows
value_given {s} {rows} id a is own given = has_value s id a rows own is.fit (given_there id rows given)

-- and some are not given
abbrev lacks : Text → List Row → Bool
lacks id rows = not (is_given id rows)

format_values : (rows : List Row) → IsChecked (built_of format_app.top) rows → is_there (codes "version") rows ≡ true → HasValues (codes "format") rows
format_values rows is there =
    let first = first_given (codes "FILE") rows (lacks (codes "blocks") rows || false) (last_checks (built_of format_app.top) rows false is.check).1 in
    let second = first_given (codes "blocks") rows false first.1 in
    let name = value_given (codes "FILE") file_arg is refl first.0 in
    let number = value_given (codes "blocks") blocks_arg is refl second.0 in
    let version = has_value (built_of format_app.top) (codes "version") version_arg rows refl is.fit there in
    record {
      program = inl refl;
      name = name.text;
      named = name.first;
      some = ltb-true 0 (length name.text) (accepted _ _ name.pass);
      blocks = λ _. record { digits = number.text; given = number.one; passes = accepted _ _ number.pass };
      version = λ _. record { digits = version.text; given = version.one; passes = accepted _ _ version.pass };
      seed = λ e. absurd (apart (codes "format") (codes "play") refl e);
      count = λ e. absurd (apart (codes "format") (codes "play") refl e);
    }

-- the words that name a subcommand
abbrev IsVerb : Text → Type 0
IsVerb verb = (verb ≡ codes "format") ⊎ (verb ≡ codes "run") ⊎ (verb ≡ codes "check") ⊎ (verb ≡ codes "play") ⊎ (verb ≡ codes "export")

-- a subcommand that takes a file's name alone
named_alone : (verb : Text) (rows : List Row) → IsVerb verb → (verb ≡ codes "format" → ⊥) → (verb ≡ codes "play" → ⊥) →
    HasValue (codes "FILE") file_arg rows → HasValues verb rows
named_alone verb rows program no_format no_play name = record {
  program = program;
  name = name.text;
  named = name.first;
  some = ltb-true 0 (length name.text) (accepted _ _ name.pass);
  blocks = λ e. absurd (no_format e);
  version = λ e. absurd (no_format e);
  seed = λ e. absurd (no_play e);
  count = λ e. absurd (no_play e);
}

run_values : (rows : List Row) → IsChecked (built_of run_app.top) rows → HasValues (codes "run") rows
run_values rows is =
    let first = first_given (codes "FILE") rows false (last_checks (built_of run_app.top) rows false is.check).1 in
    named_alone (codes "run") rows (inr (inl refl)) (apart (codes "run") (codes "format") refl) (apart (codes "run") (codes "play") refl)
    (value_given (codes "FILE") file_arg is refl first.0)

check_values : (rows : List Row) → IsChecked (built_of check_app.top) rows → HasValues (codes "check") rows
check_values rows is =
    let first = first_given (codes "FILE") rows false (last_checks (built_of check_app.top) rows false is.check).1 in
    named_alone (codes "check") rows (inr (inr (inl refl))) (apart (codes "check") (codes "format") refl) (apart (codes "check") (codes "play") refl)
    (value_given (codes "FILE") file_arg is refl first.0)

export_values : (rows : List Row) → IsChecked (built_of export_app.top) rows → HasValues (codes "export") rows
export_values rows is =
    let first = first_given (codes "FILE") rows false (last_checks (built_of export_app.top) rows false is.check).1 in
    named_alone (codes "export") rows (inr (inr (inr (inr refl)))) (apart (codes "export") (codes "format") refl) (apart (codes "export") (codes "play") refl)
    (value_given (codes "FILE") file_arg is refl first.0)

play_values : (rows : List Row) → IsChecked (built_of play_app.top) rows → HasValues (codes "play") rows
play_values rows is =
    let others = lacks (codes "seed") rows || (lacks (codes "count") rows || false) in
    let first = first_given (codes "FILE") rows others (last_checks (built_of play_app.top) rows false is.check).1 in
    let second = first_given (codes "seed") rows (lacks (codes "count") rows || false) first.1 in
    let third = first_given (codes "count") rows false second.1 in
    let name = value_given (codes "FILE") file_arg is refl first.0 in
    let seed = value_given (codes "seed") seed_arg is refl second.0 in
    let count = value_given (codes "count") count_arg is refl third.0 in
    record {
      program = inr (inr (inr (inl refl)));
      name = name.text;
      named = name.first;
      some = ltb-true 0 (length name.text) (accepted _ _ name.pass);
      blocks = λ e. absurd (apart (codes "play") (codes "format") refl e);
      version = λ e. absurd (apart (codes "play") (codes "format") refl e);
      seed = λ _. record { digits = seed.text; given = seed.one; passes = accepted _ _ seed.pass };
      count = λ _. record { digits = count.text; given = count.one; passes = accepted _ _ count.pass };
    }

-- what a subcommand that a word named has
abbrev Serves : Text × List Text → Shape → Type 0
Serves p s = answers_to p.0 (label_of s) ≡ true → level_fault s [] nothing_held p.1 false [] ≡ [] → HasValues s.name (rows_after s.rules [] p.1)

each_serves : (p : Text × List Text) → bytes_eq p.0 (codes "help") ≡ false → Each (Serves p) (built bpfs_app).subs
each_serves p other = (
  λ _ fault. format_values _ (checked_level (built_of format_app.top) p.1 usable_format fault) (version_after p.1),
  (
    λ _ fault. run_values _ (checked_level (built_of run_app.top) p.1 usable_run fault),
    (
      λ _ fault. check_values _ (checked_level (built_of check_app.top) p.1 usable_check fault),
      (
        λ _ fault. play_values _ (checked_level (built_of play_app.top) p.1 usable_play fault),
        (
          λ _ fault. export_values _ (checked_level (built_of export_app.top) p.1 usable_export fault),
          (λ answers fault. absurd (true≢false (sym ((bytes_eq-Decides p.0 (codes "help")).1 (helps answers)) ∙ other)), tt),
        ),
      ),
    ),
  ),
)
  where
    helps : (bytes_eq (codes "help") p.0 || false) ≡ true → p.0 ≡ codes "help"
    helps e = go (bytes_eq (codes "help") p.0) refl e
      where
        go : (b : Bool) → bytes_eq (codes "help") p.0 ≡ b → (b || false) ≡ true → p.0 ≡ codes "help"
        go true is e = sym ((bytes_eq-Decides (codes "help") p.0).0 is)
        go false is e = absurd (true≢false (sym e))

wanted_some : (b : Bool) → (not b && true) ≡ false → b ≡ true
wanted_some true e = refl
wanted_some false e = absurd (true≢false e)

-- what was met has a verb, and the values that this asks for
record HasMet (met : Option (Text × List Row)) : Type 0 where
  verb : Text
  rows : List Row
  is : met ≡ Some (verb, rows)
  has : HasValues verb rows

-- a subcommand is the one that a word names
abbrev answers : Text × List Text → Shape → Bool
answers p s = answers_to p.0 (label_of s)

-- what is found wrong with the words after that
abbrev faults_of : Text × List Text → Option Shape → Kinds
faults_of p o = option_map_or (λ s. level_fault s [] nothing_held p.1 false []) o []

entered_values : (stop : Option (Text × List Text)) → is_help stop ≡ false → entered_fault (built bpfs_app) stop ≡ [] →
    is_some (entered (built bpfs_app) stop) ≡ true → HasMet (entered (built bpfs_app) stop)
entered_values None other fault some = absurd (true≢false (sym some))
entered_values (Some p) other fault some = go (find (answers p) (built bpfs_app).subs) refl fault some
  where
    go : (o : Option Shape) → find (answers p) (built bpfs_app).subs ≡ o → faults_of p o ≡ [] → is_some (option_map (λ s. rows_at s p.1) o) ≡ true →
        HasMet (option_map (λ s. rows_at s p.1) o)
    go None at none never = absurd (true≢false (sym never))
    go (Some s) at none some =
        let here = found_is (Serves p) (answers p) (built bpfs_app).subs s (each_serves p other) at in
        record { verb = s.name; rows = rows_after s.rules [] p.1; is = refl; has = here.0 here.1 none }

pub taken_values : (words : List Text) → IsTaken words → IsNamed words
unfolding IsTaken subcommand_named
taken_values words taken =
    let top = (built bpfs_app).top in
    let names = names_of (built bpfs_app) in
    let given = argument_words bpfs_app words in
    let stop = (walk top.rules names nothing_held given).stopped in
    let met = entered (built bpfs_app) stop in
    let checks = level_checks top names given (is_some met) (entered_fault (built bpfs_app) stop) taken in
    let other : is_help stop ≡ false = stop_walk top names refl given (walk_from nothing_held) (both_empty _ _ taken).0 refl in
    let some : is_some met ≡ true = wanted_some _ (last_checks top (rows_after top.rules names given) (is_some met) checks.1).0 in
    let found = entered_values stop other checks.0 some in
    record { verb = found.verb; rows = found.rows; is = found.is; has = found.has }
