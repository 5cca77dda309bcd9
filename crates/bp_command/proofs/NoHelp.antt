-- A walk over words that finds no fault stops at no `help`.
use Rattle.std.proofs.Common.{◌≡◌, ◌&&◌, ℕ, Bool, true, false, not, cond, refl, List, [], ◌∷◌}
use Rattle.std.specs.Prelude.{Option, Some, None, codes, fold, is_some}
use Rattle.std.specs.Str.{bytes_eq}
use Rattle.clap.specs.Faults.{other_fault, step_fault, turn_fault, walk_fault, word_fault}
use Rattle.clap.specs.Kinds.{Kinds, or_else}
use Rattle.clap.specs.Lexer.{long_of, short_of}
use Rattle.clap.specs.Simple.{Shape}
use Rattle.clap.specs.Walk.{Held, Names, Outcome, Rule, Step, Text, Waiting, Walk}
use Rattle.clap.specs.Walk.{arg_by_index, arg_by_long}
use Rattle.clap.specs.Walk.{bundle, long_met, long_or_other, plain_word, short_or_plain, walked, walked_from, word_met}
use Rattle.clap.specs.Walk.{after_flag, after_step, subcommand_met, subcommand_or_other, to_positional}
use Rattle.clap.specs.Walk.Outcome.{done, waits, plain, refused}
use Rattle.clap.specs.Walk.Step.{next, trailing, subcommand, value}
use Rattle.clap.specs.Walk.Waiting.{idle, option, positional}
use Rattle.clap.specs.declared.error.kind.ErrorKind.TheVariants as kind
use Rattle.bp_command.proofs.Chains.{both_empty}

abbrev pub is_help : Option (Text × List Text) → Bool
is_help None = false
is_help (Some p) = bytes_eq p.0 (codes "help")

abbrev asks_help : Step → Bool
asks_help (subcommand name) = bytes_eq name (codes "help")
asks_help (next waiting) = false
asks_help (trailing position) = false
asks_help value = false

module _ (s : Shape) (names : Names) (able : s.disable_help_subcommand ≡ false) where
  -- its arguments
  abbrev known : List Rule
  known = s.rules

  plain_step : (waiting : Waiting) (word : Text) (h : Held) → asks_help (plain_word known waiting word h).1 ≡ false
  plain_step idle word h = refl
  plain_step positional word h = refl
  plain_step (option id) word h = refl

  flag_step : (waiting : Waiting) (word : Text) (h : Held) (outcome : Outcome) → asks_help (after_flag known waiting word h outcome).1 ≡ false
  flag_step waiting word h done = refl
  flag_step waiting word h (waits id) = refl
  flag_step waiting word h plain = plain_step waiting word h
  flag_step waiting word h refused = plain_step waiting word h

  other_step : (waiting : Waiting) (word : Text) (o : Option (Text × Option Text)) (h : Held) → asks_help (long_or_other known waiting word o h).1 ≡ false
  other_step waiting word (Some p) h =
      let met = long_met known (arg_by_long known p.0) p.1 h in
      flag_step waiting word met.0 met.1
  other_step waiting word None h = go (short_of word)
    where
      go : (o : Option Text) → asks_help (short_or_plain known waiting word o h).1 ≡ false
      go None = plain_step waiting word h
      go (Some flags) = flag_step waiting word (bundle known flags h).0 (bundle known flags h).1

  met_step : (is_trailing : Bool) (waiting : Waiting) (position : ℕ) (word : Text) (h : Held) → word_fault s names is_trailing waiting word h ≡ [] →
      asks_help (word_met known names is_trailing waiting position word h).1 ≡ false
  met_step true waiting position word h fault = refl
  met_step false waiting position word h fault = go (subcommand_met names waiting word) fault
    where
      named : (b : Bool) → cond (b && not s.disable_help_subcommand) (kind.DisplayHelp ∷ kind.InvalidSubcommand ∷ []) [] ≡ [] → b ≡ false
      named false none = refl
      named true none = absurd (let never : kind.DisplayHelp ∷ kind.InvalidSubcommand ∷ [] ≡ [] = rw able at none in cc)

      other : (b : Bool) → asks_help (cond b (h, trailing position) (long_or_other known waiting word (long_of word) h)).1 ≡ false
      other true = refl
      other false = other_step waiting word (long_of word) h

      go : (o : Option Text) → other_fault s o word h ≡ [] → asks_help (subcommand_or_other known o waiting position word h).1 ≡ false
      go (Some name) none = named (bytes_eq name (codes "help")) none
      go None none = other (bytes_eq word (45 ∷ 45 ∷ []))

  stop_step : (word : Text) (w : Walk) (h : Held) (step : Step) → asks_help step ≡ false → is_help w.stopped ≡ false →
      is_help (after_step known word w h step).stopped ≡ false
  stop_step word w h (next waiting) asks still = still
  stop_step word w h (trailing position) asks still = still
  stop_step word w h (subcommand name) asks still = asks
  stop_step word w h value asks still = go (arg_by_index known w.position)
    where
      go : (o : Option Rule) → is_help (to_positional known o word w h).stopped ≡ false
      go None = still
      go (Some a) = refl

  -- what a word makes of a walk, and what is found wrong with it
  abbrev met : Walk → Text → Held × Step
  met w word = word_met known names w.is_trailing w.waiting w.position word w.held

  abbrev faults : Walk → Text → Kinds
  faults w word =
      let after = met w word in
      or_else (word_fault s names w.is_trailing w.waiting word w.held) (step_fault s w.position after.0 after.1)

  stop_walked : (w : Walk) (word : Text) → turn_fault s names w word ≡ [] → is_help w.stopped ≡ false → is_help (walked known names w word).stopped ≡ false
  unfolding walked
  stop_walked w word fault still = go w.stopped still fault
    where
      go : (o : Option (Text × List Text)) → is_help o ≡ false → cond (is_some o) [] (faults w word) ≡ [] → is_help (walked_from known names o w word).stopped ≡ false
      go (Some p) same none = same
      go None same none =
          let after = met w word in
          let asks : asks_help after.1 ≡ false = met_step w.is_trailing w.waiting w.position word w.held (both_empty _ _ none).0 in
          stop_step word w after.0 after.1 asks still

  pub stop_walk : (words : List Text) (w : Walk) → walk_fault s names w words ≡ [] → is_help w.stopped ≡ false →
      is_help (fold (walked known names) w words).stopped ≡ false
  unfolding walk_fault
  stop_walk [] w fault still = still
  stop_walk (word ∷ rest) w fault still =
      let parts = both_empty _ _ fault in
      stop_walk rest (walked known names w word) parts.1 (stop_walked w word parts.0 still)
