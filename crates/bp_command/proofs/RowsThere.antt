-- Which arguments have a row, and what a default adds.
use Rattle.std.proofs.Common.{◌≡◌, ◌||◌, ◌++◌, Bool, true, false, cond, refl, sym, List, [], ◌∷◌, true≢false}
use Rattle.std.specs.Prelude.{Option, Some, None, find, is_some}
use Rattle.std.specs.Option.{option_map_or}
use Rattle.std.specs.Str.{bytes_eq}
use Rattle.std.proofs.lemmas.Slice.Eq.{bytes_eq-Decides}
use Rattle.clap.specs.Facts.{explicit_source}
use Rattle.clap.specs.Takes.{is_given}
use Rattle.clap.specs.Walk.{Row, Rule, Text, default_rows, has_row, more_values, reading_by, with_default, with_values}
use Rattle.clap.specs.declared.builder.value_parser.Reading.{Reading}
use Rattle.clap.specs.declared.parser.matches.ValueSource.{ValueSource}
use Rattle.clap.specs.declared.parser.matches.ValueSource.TheVariants.{DefaultValue}

-- an argument has a row
abbrev pub is_there : Text → List Row → Bool
is_there id rows = is_some (find (λ r. bytes_eq r.id id) rows)

pub given_there : (id : Text) (rows : List Row) → is_given id rows ≡ true → is_there id rows ≡ true
given_there id rows given = go (find (λ r. bytes_eq r.id id) rows) given
  where
    go : (o : Option Row) → option_map_or (λ r. explicit_source r.source) o false ≡ true → is_some o ≡ true
    go None none = absurd (true≢false (sym none))
    go (Some r) some = refl

any_there : (id : Text) (rows : List Row) → has_row id rows ≡ true → is_there id rows ≡ true
any_there id [] any = absurd (true≢false (sym any))
any_there id (r ∷ rows) any = go (bytes_eq r.id id) (any_there id rows) any
  where
    go : (b : Bool) → (has_row id rows ≡ true → is_there id rows ≡ true) → (b || has_row id rows) ≡ true →
        is_some (cond b (Some r) (find (λ r. bytes_eq r.id id) rows)) ≡ true
    go true rest some = refl
    go false rest some = rest some

values_there : (id : Text) (how : Reading) (source : ValueSource) (values : List Text) (rows : List Row) →
    is_there id (with_values id how source values rows) ≡ true
values_there id how source values [] = rw ((bytes_eq-Decides id id).1 refl) refl
values_there id how source values (r ∷ rows) = go (bytes_eq r.id id) refl (values_there id how source values rows)
  where
    go : (b : Bool) → bytes_eq r.id id ≡ b → is_there id (with_values id how source values rows) ≡ true
        → is_there id (cond b (more_values source values r ++ rows) (r ∷ with_values id how source values rows)) ≡ true
    go true is rest = rw is refl
    go false is rest = rw is rest

-- a default makes a row, where the argument has none
pub default_there : (a : Rule) (v : Text) (vs : List Text) (rows : List Row) → a.defaults ≡ v ∷ vs → is_there a.id (with_default rows a) ≡ true
default_there a v vs rows is = go (has_row a.id rows) refl
  where
    go : (b : Bool) → has_row a.id rows ≡ b → is_there a.id (cond b rows (default_rows a.id (reading_by a) a.defaults rows)) ≡ true
    go true any = any_there a.id rows any
    go false any = rw is (values_there a.id (reading_by a) DefaultValue (v ∷ vs) rows)

pub no_default : (a : Rule) (rows : List Row) → a.defaults ≡ [] → with_default rows a ≡ rows
no_default a rows is = rw is (elim (has_row a.id rows) as (λ b. cond b rows rows ≡ rows) [ true ↦ refl | false ↦ refl ])
