-- What the last checks of a command say: what it asks for is there, and an argument that is there has a value.
use Rattle.std.proofs.Common.{◌≡◌, ◌&&◌, ◌||◌, Bool, true, false, not, refl, sym, ap, subst, arith, List, [], ◌∷◌, length, true≢false}
use Rattle.std.specs.Prelude.{Option, Some, None, find, is_some}
use Rattle.std.specs.List.{list_any}
use Rattle.std.specs.Str.{bytes_eq}
use Rattle.std.proofs.lemmas.Slice.Eq.{bytes_eq-Decides}
use Rattle.clap.specs.Facts.{explicit_source, parser_of_value}
use Rattle.clap.specs.Faults.{check_fault, level_fault}
use Rattle.clap.specs.Kinds.{Kinds, value_kinds}
use Rattle.clap.specs.Simple.{Shape}
use Rattle.clap.specs.Takes.{is_given}
use Rattle.clap.specs.Values.{read_as}
use Rattle.clap.specs.Walk.{Held, Names, Row, Rule, Text, arg_by_id, first_of, nothing_held, one_of, reading_by, rows_after, walk, walk_from}
use Rattle.bp_command.proofs.Chains.{Each, both_empty, found_is, is_true, neither, no_checks}
use Rattle.bp_command.proofs.Fitting.{AllFit, Fits, IsUsable, RowFits, fit-defaults, fit-settled, fit-walk}
use Rattle.bp_command.proofs.RowsThere.{is_there}

-- an argument that has a row has a value, which it takes
pub record HasValue (id : Text) (a : Rule) (rows : List Row) : Type 0 where
  pub text : Text
  pub first : first_of id rows ≡ Some text
  pub one : one_of id rows ≡ Some (read_as (reading_by a) text)
  pub pass : value_kinds a.ignore_case (parser_of_value a.parser) text ≡ []

module _ (s : Shape) where
  -- no fault is found in the words of a command, nor below it
  module _ (names : Names) (words : List Text) (given : Bool) (below : Kinds) (fault : level_fault s names nothing_held words given below ≡ []) where
    pub fit-level : Each (IsUsable s) s.rules → AllFit s (rows_after s.rules names words)
    fit-level usable =
        let walks = both_empty _ _ fault in
        let later = both_empty _ _ walks.1 in
        let settles = both_empty _ _ later.1 in
        let held : Held = (walk s.rules names nothing_held words).held in
        let fit : AllFit s held.rows = fit-walk s usable names words (walk_from nothing_held) walks.0 tt in
        fit-defaults s s.rules _ usable (fit-settled s usable held settles.0 fit)

    pub level_checks : (below ≡ []) × (check_fault s (rows_after s.rules names words) given ≡ [])
    level_checks =
        let later = both_empty _ _ (both_empty _ _ fault).1 in
        (later.0, (both_empty _ _ (both_empty _ _ later.1).1).1)

  pub has_value : (id : Text) (a : Rule) (rows : List Row) → arg_by_id s.rules id ≡ Some a → AllFit s rows → is_there id rows ≡ true → HasValue id a rows
  has_value id a rows is fit there = go (find (λ r. bytes_eq r.id id) rows) refl there
    where
      parts : (r : Row) (values : List Text) → find (λ r. bytes_eq r.id id) rows ≡ Some r → r.values ≡ values → Fits a r → HasValue id a rows
      parts r [] at are fits = absurd (omega (arith, fits.some, ap length are))
      parts r (v ∷ vs) at are fits = record {
        text = v;
        first = rw (at, are) refl;
        one = rw (at, are, fits.reading) refl;
        pass = (both_empty _ _ (rw are at fits.pass)).0;
      }

      go : (o : Option Row) → find (λ r. bytes_eq r.id id) rows ≡ o → is_some o ≡ true → HasValue id a rows
      go None at none = absurd (true≢false (sym none))
      go (Some r) at some =
          let here = found_is (RowFits s) _ rows r fit at in
          let same : r.id ≡ id = (bytes_eq-Decides r.id id).0 here.1 in
          parts r r.values at refl (here.0 a (subst (λ (i : Text). arg_by_id s.rules i ≡ Some a) (sym same) is))

  -- a subcommand is there where one is asked for
  abbrev HasSubcommand : Bool → Type 0
  HasSubcommand given = (not given && s.subcommand_required) ≡ false

  -- and each required argument, but where a subcommand does in its place
  abbrev HasRequired : List Row → Bool → Type 0
  HasRequired rows given = (not (s.subcommand_negates_reqs && given) && list_any (λ a. a.required && not (is_given a.id rows)) s.rules) ≡ false

  pub last_checks : (rows : List Row) (given : Bool) → check_fault s rows given ≡ [] → HasSubcommand given × HasRequired rows given
  last_checks rows given none = no_checks (not given && (s.arg_required_else_help && not (list_any (λ r. explicit_source r.source) rows))) _ _ none

-- the first of some required arguments is given
pub first_given : (id : Text) (rows : List Row) (others : Bool) → (not (is_given id rows) || others) ≡ false → (is_given id rows ≡ true) × (others ≡ false)
first_given id rows others none = let parts = neither (not (is_given id rows)) others none in (is_true (is_given id rows) parts.0, parts.1)
