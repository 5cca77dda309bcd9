-- What the matches of a subcommand give, as its rows do.
use Rattle.std.proofs.Common.{◌≡◌, Bool, true, false, List, [], ◌∷◌, map, Option, None, Some, refl, sym, ◌∙◌, ap}
use Rattle.std.specs.Prelude.{find, option_map, option_and_then, slice_get, codes}
use Rattle.std.specs.Str.{bytes_eq}
use Rattle.std.proofs.lemmas.Option.{slice_get-map}
use Rattle.clap.specs.Facts.{Entry}
use Rattle.clap.specs.Walk.{row_of, row_text}
use Rattle.clap.specs.Values.{read_as}
use Rattle.clap.specs.Words.{Row, Text, first_of, first_value, one_of, one_text, rows_of, subcommand_name_of, subcommand_rows_of}
use Rattle.clap.specs.Simple.{is_simple}
use Rattle.clap.specs.declared.parser.matches.Found.{Found}
use Rattle.clap.specs.declared.parser.matches.ArgMatches.{ArgMatches}
use Rattle.bp_command.specs.Commands.{HasMet, bpfs_app, subcommand_named}

row_found : (id : Text) (entries : List Entry) → find (λ (r : Row). bytes_eq r.id id) (map row_of entries) ≡ option_map row_of (find (λ (e : Entry). bytes_eq e.0.now id) entries)
row_found id [] = refl
row_found id (e ∷ entries) = go (row_found id entries) (bytes_eq e.0.now id) refl
  where
    go : find (λ (r : Row). bytes_eq r.id id) (map row_of entries) ≡ option_map row_of (find (λ (x : Entry). bytes_eq x.0.now id) entries) → (b : Bool) → bytes_eq e.0.now id ≡ b →
        find (λ (r : Row). bytes_eq r.id id) (row_of e ∷ map row_of entries) ≡ option_map row_of (find (λ (x : Entry). bytes_eq x.0.now id) (e ∷ entries))
    go rest true is = rw is refl
    go rest false is = rw is rest

first_text : (o : Option Entry) → option_and_then (λ (r : Row). slice_get r.values 0) (option_map row_of o)
    ≡ option_and_then (λ a. option_map (λ s. s.now) (slice_get a.vals.items 0)) (option_map (λ (e : Entry). e.1) o)
first_text None = refl
first_text (Some e) = slice_get-map (λ s. s.now) e.1.vals.items 0

first_given : (id : Text) (f : Found) → first_of id (rows_of f) ≡ first_value f id
first_given id f = ap (option_and_then (λ (r : Row). slice_get r.values 0)) (row_found id f.entries.items) ∙ first_text (find (λ (e : Entry). bytes_eq e.0.now id) f.entries.items)

map_twice : {A B C : Type 0} (g : B → C) (h : A → B) (o : Option A) → option_map g (option_map h o) ≡ option_map (λ x. g (h x)) o
map_twice g h None = refl
map_twice g h (Some x) = refl

read_text : (o : Option Entry) → option_and_then row_text (option_map row_of o) ≡ option_and_then (λ a. option_map (λ s. read_as a.reading s.now) (slice_get a.vals.items 0)) (option_map (λ (e : Entry). e.1) o)
read_text None = refl
read_text (Some e) = ap (option_map (read_as e.1.reading)) (slice_get-map (λ s. s.now) e.1.vals.items 0) ∙ map_twice (read_as e.1.reading) (λ s. s.now) (slice_get e.1.vals.items 0)

pub one_given : (id : Text) (f : Found) → one_of id (rows_of f) ≡ one_text f id
one_given id f = ap (option_and_then row_text) (row_found id f.entries.items) ∙ read_text (find (λ (e : Entry). bytes_eq e.0.now id) f.entries.items)

-- the file's name
pub name_given : (f : Found) (name : Option Text) → name ≡ first_value f (codes "FILE") → first_of (codes "FILE") (rows_of f) ≡ name
name_given f name is = first_given (codes "FILE") f ∙ sym is

simple : is_simple bpfs_app ≡ true
simple = refl

-- the subcommand that the words name is the one of the matches
met_given : (words : List Text) (m : ArgMatches) → HasMet words m → subcommand_named words ≡ subcommand_rows_of m
unfolding subcommand_named HasMet
met_given words m has = sym (has simple).1

same_some : {A : Type 0} (x y : A) → Some x ≡ Some y → x ≡ y
same_some x y e = cc

pub met_parts : (words : List Text) (m : ArgMatches) (verb : Text) (rows : List Row) → HasMet words m → Some verb ≡ subcommand_name_of m → Some rows ≡ option_map (λ p. p.1) (subcommand_rows_of m) →
    (v : Text) (r : List Row) → subcommand_named words ≡ Some (v, r) → (verb ≡ v) × (rows ≡ r)
met_parts words m verb rows has name given v r is =
    let named : subcommand_name_of m ≡ option_map (λ p. p.0) (subcommand_rows_of m) = sym (map_twice (λ p. p.0) _ _) in
    let at : subcommand_rows_of m ≡ Some (v, r) = sym (met_given words m has) ∙ is in (
      same_some verb v (name ∙ named ∙ ap (option_map (λ p. p.0)) at),
      same_some rows r (given ∙ ap (option_map (λ p. p.1)) at),
    )

pub met_nothing : (words : List Text) (m : ArgMatches) → HasMet words m → None ≡ subcommand_name_of m → (v : Text) (r : List Row) → subcommand_named words ≡ Some (v, r) → ⊥
met_nothing words m has none v r is =
    let named : subcommand_name_of m ≡ option_map (λ p. p.0) (subcommand_rows_of m) = sym (map_twice (λ p. p.0) _ _) in
    let at : None ≡ Some v = none ∙ named ∙ ap (option_map (λ p. p.0)) (sym (met_given words m has) ∙ is) in
    cc
