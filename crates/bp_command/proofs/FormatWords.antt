-- The plain words of a format are taken, and give what they say: a walk over them, word by word.
use Rattle.bp_limits.specs.Limits.{max_file_blocks, min_blocks}
use Rattle.std.proofs.Common.{◌≡◌, ℕ, List, [], ◌∷◌, true, false, nat_eq, refl, ◌∙◌, ap}
use Rattle.std.specs.Prelude.{Option, None, Some, codes}
use Rattle.clap.specs.Simple.{Shape}
use Rattle.clap.specs.Walk.{Row, Text, Walk, finished, nothing_held, walk, walk_from}
use Rattle.clap.specs.Walk.Waiting.{idle, option}
use Rattle.clap.specs.ValueTests.{accepts}
use Rattle.clap.specs.declared.builder.value_parser.ValueParser.TheVariants as vp
use Rattle.clap.proofs.OnLiterals.{clap_on_literals}
use Rattle.bp_command.specs.Commands.{IsTaken, subcommand_named, format_app}
use Rattle.bp_command.proofs.Chains.{joined}
use Rattle.bp_command.proofs.Taken.{blocks_arg, built_of, file_arg}
use Rattle.bp_command.proofs.Walking.{Goes, Numbers, Turn, following, faults_after, goes_on, no_fault, parts, row, some_name, stays}

abbrev format : Shape
format = built_of format_app.top

file_turn : (x : ℕ) (xs : Text) → nat_eq x 45 ≡ false → Turn format (walk_from nothing_held) (x ∷ xs) (following [] (codes "FILE") ((x ∷ xs) ∷ []) idle)
unfolding clap_on_literals
file_turn x xs h = record { passes = simp h refl; goes = simp h refl }

blocks_turn : (x : ℕ) (xs : Text) → Turn format (following [] (codes "FILE") ((x ∷ xs) ∷ []) idle) (codes "--blocks") (following (row file_arg (x ∷ xs) ∷ []) (codes "blocks") [] (option (codes "blocks")))
unfolding clap_on_literals
blocks_turn x xs = let n = some_name x xs in record { passes = simp n refl; goes = refl }

blocks_value : (rows : List Row) (d : ℕ) (ds : Text) → nat_eq d 45 ≡ false → Turn format (following rows (codes "blocks") [] (option (codes "blocks"))) (d ∷ ds) (following rows (codes "blocks") ((d ∷ ds) ∷ []) idle)
unfolding clap_on_literals
blocks_value rows d ds k = record { passes = simp k refl; goes = simp k refl }

version_turn : (name blocks : Text) → accepts false (vp.Unsigned min_blocks max_file_blocks) blocks ≡ true →
    Turn format (following (row file_arg name ∷ []) (codes "blocks") (blocks ∷ []) idle) (codes "--version") (following (row file_arg name ∷ row blocks_arg blocks ∷ []) (codes "version") [] (option (codes "version")))
unfolding clap_on_literals
version_turn name blocks a = record { passes = simp a refl; goes = refl }

version_value : (rows : List Row) (v : ℕ) → nat_eq v 45 ≡ false → Turn format (following rows (codes "version") [] (option (codes "version"))) (v ∷ []) (following rows (codes "version") ((v ∷ []) ∷ []) idle)
unfolding clap_on_literals
version_value rows v l = record { passes = simp l refl; goes = simp l refl }

-- ---- the words

module _ (x d : ℕ) (xs ds : Text) (h : nat_eq x 45 ≡ false) (k : nat_eq d 45 ≡ false) (a : accepts false (vp.Unsigned min_blocks max_file_blocks) (d ∷ ds) ≡ true) where
  -- what the words give where the walk over them stands here
  abbrev parts_at : Walk → Option (Text × Option Text × Numbers)
  parts_at w = parts (Some (codes "format", finished format.rules w.held))

  -- ---- that name no version

  abbrev short : List Text
  short = (x ∷ xs) ∷ codes "--blocks" ∷ (d ∷ ds) ∷ []

  abbrev short_last : Walk
  short_last = following (row file_arg (x ∷ xs) ∷ []) (codes "blocks") ((d ∷ ds) ∷ []) idle

  goes_over_short : Goes format (walk_from nothing_held) short short_last
  goes_over_short =
      goes_on format _ _ short_last (x ∷ xs) _ (file_turn x xs h)
      (goes_on format _ _ short_last (codes "--blocks") _ (blocks_turn x xs) (goes_on format _ _ short_last (d ∷ ds) [] (blocks_value _ d ds k) (stays format short_last)))

  none_after_short : faults_after format short_last ≡ []
  unfolding clap_on_literals
  none_after_short = simp a refl

  pub taken_short : (called : Text) → IsTaken (called ∷ codes "format" ∷ short)
  unfolding IsTaken clap_on_literals
  taken_short called = joined _ _ refl (joined _ _ (no_fault format short short_last goes_over_short none_after_short) (joined _ _ refl (joined _ _ refl refl)))

  pub met_short : (called : Text) → parts (subcommand_named (called ∷ codes "format" ∷ short)) ≡ Some (codes "format", Some (x ∷ xs), (Some (d ∷ ds), Some (codes "1"), None, None))
  unfolding subcommand_named clap_on_literals
  met_short called =
      let here : parts_at (walk format.rules [] nothing_held short) ≡ parts_at short_last = ap parts_at goes_over_short.goes in
      here ∙ refl

  -- ---- that name one

  module _ (v : ℕ) (l : nat_eq v 45 ≡ false) (b : accepts false (vp.Unsigned 1 3) (v ∷ []) ≡ true) where
    abbrev given : List Text
    given = (x ∷ xs) ∷ codes "--blocks" ∷ (d ∷ ds) ∷ codes "--version" ∷ (v ∷ []) ∷ []

    abbrev last : Walk
    last = following (row file_arg (x ∷ xs) ∷ row blocks_arg (d ∷ ds) ∷ []) (codes "version") ((v ∷ []) ∷ []) idle

    goes_over : Goes format (walk_from nothing_held) given last
    goes_over =
        goes_on format _ _ last (x ∷ xs) _ (file_turn x xs h)
        (
        goes_on format _ _ last (codes "--blocks") _ (blocks_turn x xs)
        (
        goes_on format _ _ last (d ∷ ds) _ (blocks_value _ d ds k)
        (goes_on format _ _ last (codes "--version") _ (version_turn (x ∷ xs) (d ∷ ds) a) (goes_on format _ _ last (v ∷ []) [] (version_value _ v l) (stays format last)))
        )
        )

    none_after : faults_after format last ≡ []
    unfolding clap_on_literals
    none_after = simp b refl

    pub taken_format : (called : Text) → IsTaken (called ∷ codes "format" ∷ given)
    unfolding IsTaken clap_on_literals
    taken_format called = joined _ _ refl (joined _ _ (no_fault format given last goes_over none_after) (joined _ _ refl (joined _ _ refl refl)))

    pub met_format : (called : Text) → parts (subcommand_named (called ∷ codes "format" ∷ given)) ≡ Some (codes "format", Some (x ∷ xs), (Some (d ∷ ds), Some (v ∷ []), None, None))
    unfolding subcommand_named clap_on_literals
    met_format called =
        let here : parts_at (walk format.rules [] nothing_held given) ≡ parts_at last = ap parts_at goes_over.goes in
        here ∙ refl
