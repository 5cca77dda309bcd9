-- The plain words of a play are taken, and give what they say: a walk over them, word by word.
use Rattle.std.proofs.Common.{◌≡◌, ℕ, List, [], ◌∷◌, true, false, nat_eq, refl, ◌∙◌, ap}
use Rattle.std.specs.Prelude.{Option, None, Some, codes}
use Rattle.clap.specs.Simple.{Shape}
use Rattle.clap.specs.Walk.{Row, Text, Walk, finished, nothing_held, walk, walk_from}
use Rattle.clap.specs.Walk.Waiting.{idle, option}
use Rattle.clap.specs.ValueTests.{accepts}
use Rattle.clap.specs.declared.builder.value_parser.ValueParser.TheVariants as vp
use Rattle.clap.proofs.OnLiterals.{clap_on_literals}
use Rattle.bp_command.specs.Commands.{IsTaken, subcommand_named, play_app}
use Rattle.bp_command.proofs.Chains.{joined}
use Rattle.bp_command.proofs.Taken.{built_of, file_arg, seed_arg}
use Rattle.bp_command.proofs.Walking.{Goes, Numbers, Turn, following, faults_after, goes_on, no_fault, parts, row, some_name, stays}

abbrev play : Shape
play = built_of play_app.top

file_turn : (x : ℕ) (xs : Text) → nat_eq x 45 ≡ false → Turn play (walk_from nothing_held) (x ∷ xs) (following [] (codes "FILE") ((x ∷ xs) ∷ []) idle)
unfolding clap_on_literals
file_turn x xs h = record { passes = simp h refl; goes = simp h refl }

seed_turn : (x : ℕ) (xs : Text) → Turn play (following [] (codes "FILE") ((x ∷ xs) ∷ []) idle) (codes "--seed") (following (row file_arg (x ∷ xs) ∷ []) (codes "seed") [] (option (codes "seed")))
unfolding clap_on_literals
seed_turn x xs = let n = some_name x xs in record { passes = simp n refl; goes = refl }

seed_value : (rows : List Row) (d : ℕ) (ds : Text) → nat_eq d 45 ≡ false → Turn play (following rows (codes "seed") [] (option (codes "seed"))) (d ∷ ds) (following rows (codes "seed") ((d ∷ ds) ∷ []) idle)
unfolding clap_on_literals
seed_value rows d ds k = record { passes = simp k refl; goes = simp k refl }

count_turn : (name seed : Text) → accepts false (vp.Unsigned 0 18446744073709551615) seed ≡ true →
    Turn play (following (row file_arg name ∷ []) (codes "seed") (seed ∷ []) idle) (codes "--count") (following (row file_arg name ∷ row seed_arg seed ∷ []) (codes "count") [] (option (codes "count")))
unfolding clap_on_literals
count_turn name seed a = record { passes = simp a refl; goes = refl }

count_value : (rows : List Row) (e : ℕ) (es : Text) → nat_eq e 45 ≡ false → Turn play (following rows (codes "count") [] (option (codes "count"))) (e ∷ es) (following rows (codes "count") ((e ∷ es) ∷ []) idle)
unfolding clap_on_literals
count_value rows e es l = record { passes = simp l refl; goes = simp l refl }

-- ---- the words

module _ (x d e : ℕ) (xs ds es : Text) (h : nat_eq x 45 ≡ false) (k : nat_eq d 45 ≡ false) (l : nat_eq e 45 ≡ false) where
  abbrev given : List Text
  given = (x ∷ xs) ∷ codes "--seed" ∷ (d ∷ ds) ∷ codes "--count" ∷ (e ∷ es) ∷ []

  abbrev last : Walk
  last = following (row file_arg (x ∷ xs) ∷ row seed_arg (d ∷ ds) ∷ []) (codes "count") ((e ∷ es) ∷ []) idle

  module _ (a : accepts false (vp.Unsigned 0 18446744073709551615) (d ∷ ds) ≡ true) where
    goes_over : Goes play (walk_from nothing_held) given last
    goes_over =
        goes_on play _ _ last (x ∷ xs) _ (file_turn x xs h)
        (
        goes_on play _ _ last (codes "--seed") _ (seed_turn x xs)
        (
        goes_on play _ _ last (d ∷ ds) _ (seed_value _ d ds k)
        (goes_on play _ _ last (codes "--count") _ (count_turn (x ∷ xs) (d ∷ ds) a) (goes_on play _ _ last (e ∷ es) [] (count_value _ e es l) (stays play last)))
        )
        )

    none_after : accepts false (vp.Unsigned 0 1000000) (e ∷ es) ≡ true → faults_after play last ≡ []
    unfolding clap_on_literals
    none_after b = simp b refl

    pub taken_play : (called : Text) → accepts false (vp.Unsigned 0 1000000) (e ∷ es) ≡ true → IsTaken (called ∷ codes "play" ∷ given)
    unfolding IsTaken clap_on_literals
    taken_play called b = joined _ _ refl (joined _ _ (no_fault play given last goes_over (none_after b)) (joined _ _ refl (joined _ _ refl refl)))

    -- what the words give where the walk over them stands here
    abbrev parts_at : Walk → Option (Text × Option Text × Numbers)
    parts_at w = parts (Some (codes "play", finished play.rules w.held))

    pub met_play : (called : Text) → parts (subcommand_named (called ∷ codes "play" ∷ given)) ≡ Some (codes "play", Some (x ∷ xs), (None, None, Some (d ∷ ds), Some (e ∷ es)))
    unfolding subcommand_named clap_on_literals
    met_play called =
        let here : parts_at (walk play.rules [] nothing_held given) ≡ parts_at last = ap parts_at goes_over.goes in
        here ∙ refl
