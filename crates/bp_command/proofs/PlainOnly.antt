-- Plain words give the program that they ask for, and no other.
use Rattle.bp_limits.specs.Limits.{max_file_blocks, min_blocks}
use Rattle.std.proofs.Common.{◌≡◌, ℕ, ◌≤◌, inl, inr, List, [], ◌∷◌, false, nat_eq, Option, None, Some, refl, sym, ◌∙◌, ap, ap₂, subst, arith}
use Rattle.std.specs.Prelude.{codes, decimal}
use Rattle.std.specs.Str.Parse.{digits_value, without_leading_plus}
use Rattle.std.proofs.lemmas.Bool.{ne_eqb}
use Rattle.clap.specs.Words.{Row, Text, first_of, one_of}
use Rattle.clap.proofs.OnLiterals.{clap_on_literals}
use Rattle.bp_command.specs.Commands.{subcommand_named}
use Rattle.bp_limits.specs.Numbers.{version_numbered}
use Rattle.bp_limits.specs.declared.version.Version.{Version}
use Rattle.bp_limits.specs.declared.version.Version.TheVariants.{One, Two, Three}
use Rattle.bp_command.specs.Programs.{Asks, IsProper, Names, Program, Requests, max_seed, program_words, short_words, version_words}
use Rattle.bp_command.proofs.Apart.{apart}
use Rattle.bp_command.proofs.Walking.{Numbers, numbers_of, parts}
use Rattle.bp_command.proofs.FormatWords.{met_format, met_short}
use Rattle.bp_command.proofs.PlayWords.{met_play}
use Rattle.bp_command.specs.Programs.Program.{formats, runs, checks, plays, exports}
use Rattle.bp_command.proofs.PlainDigits.{AreDigits, all_words, blocks_words, digit_of, digits_of, inside, same_value}

-- a program that takes a name and no number
abbrev no_numbers : Numbers
no_numbers = (None, None, None, None)

met_run : (called : Text) (x : ℕ) (xs : Text) → nat_eq x 45 ≡ false →
    parts (subcommand_named (called ∷ codes "run" ∷ (x ∷ xs) ∷ [])) ≡ Some (codes "run", Some (x ∷ xs), no_numbers)
unfolding subcommand_named clap_on_literals
met_run called x xs h = simp h refl

met_check : (called : Text) (x : ℕ) (xs : Text) → nat_eq x 45 ≡ false →
    parts (subcommand_named (called ∷ codes "check" ∷ (x ∷ xs) ∷ [])) ≡ Some (codes "check", Some (x ∷ xs), no_numbers)
unfolding subcommand_named clap_on_literals
met_check called x xs h = simp h refl

met_export : (called : Text) (x : ℕ) (xs : Text) → nat_eq x 45 ≡ false →
    parts (subcommand_named (called ∷ codes "export" ∷ (x ∷ xs) ∷ [])) ≡ Some (codes "export", Some (x ∷ xs), no_numbers)
unfolding subcommand_named clap_on_literals
met_export called x xs h = simp h refl

-- the rows of a format give these words
record GivesFormat (rows : List Row) (name number digit : Text) : Type 0 where
  file : first_of (codes "FILE") rows ≡ Some name
  blocks : one_of (codes "blocks") rows ≡ Some number
  version : one_of (codes "version") rows ≡ Some digit

-- and those of a play
record GivesPlay (rows : List Row) (name first second : Text) : Type 0 where
  file : first_of (codes "FILE") rows ≡ Some name
  seed : one_of (codes "seed") rows ≡ Some first
  count : one_of (codes "count") rows ≡ Some second

module _ (called : Text) where
  -- what the words give has these parts
  named_by : (found : Option (Text × List Row)) (verb name : Text) (numbers : Numbers) (other : Program) (v : Text) (rows : List Row) →
      parts found ≡ Some (verb, Some name, numbers) → found ≡ Some (v, rows) → Names v rows other
      → (first_of (codes "FILE") rows ≡ Some name) × (numbers_of rows ≡ numbers) × Names verb rows other
  named_by found verb name numbers other v rows is given names =
      let same : (v, first_of (codes "FILE") rows, numbers_of rows) ≡ (verb, Some name, numbers) = inside (sym (ap parts given) ∙ is) in (
        ap (λ (p : Text × Option Text × Numbers). p.1) same,
        ap (λ (p : Text × Option Text × Numbers). p.2) same,
        subst (λ (w : Text). Names w rows other) (ap (λ (p : Text × Option Text × Numbers). p.0) same) names,
      )

  only_run : (x : ℕ) (xs : Text) (other : Program) → nat_eq x 45 ≡ false → Requests (called ∷ codes "run" ∷ (x ∷ xs) ∷ []) other → other ≡ runs (x ∷ xs)
  only_run x xs other h asked =
      let n = named_by _ (codes "run") (x ∷ xs) no_numbers other asked.verb asked.rows (met_run called x xs h) asked.is asked.names in
      go other n.0 n.2
    where
      go : (p : Program) → first_of (codes "FILE") asked.rows ≡ Some (x ∷ xs) → Names (codes "run") asked.rows p → p ≡ runs (x ∷ xs)
      go (formats name blocks version) file n = absurd (apart (codes "run") (codes "format") refl n.0)
      go (runs name) file n = ap runs (inside (sym n.1 ∙ file))
      go (checks name) file n = absurd (apart (codes "run") (codes "check") refl n.0)
      go (plays name seed count) file n = absurd (apart (codes "run") (codes "play") refl n.0)
      go (exports name) file n = absurd (apart (codes "run") (codes "export") refl n.0)

  only_check : (x : ℕ) (xs : Text) (other : Program) → nat_eq x 45 ≡ false → Requests (called ∷ codes "check" ∷ (x ∷ xs) ∷ []) other → other ≡ checks (x ∷ xs)
  only_check x xs other h asked =
      let n = named_by _ (codes "check") (x ∷ xs) no_numbers other asked.verb asked.rows (met_check called x xs h) asked.is asked.names in
      go other n.0 n.2
    where
      go : (p : Program) → first_of (codes "FILE") asked.rows ≡ Some (x ∷ xs) → Names (codes "check") asked.rows p → p ≡ checks (x ∷ xs)
      go (formats name blocks version) file n = absurd (apart (codes "check") (codes "format") refl n.0)
      go (runs name) file n = absurd (apart (codes "check") (codes "run") refl n.0)
      go (checks name) file n = ap checks (inside (sym n.1 ∙ file))
      go (plays name seed count) file n = absurd (apart (codes "check") (codes "play") refl n.0)
      go (exports name) file n = absurd (apart (codes "check") (codes "export") refl n.0)

  only_export : (x : ℕ) (xs : Text) (other : Program) → nat_eq x 45 ≡ false → Requests (called ∷ codes "export" ∷ (x ∷ xs) ∷ []) other → other ≡ exports (x ∷ xs)
  only_export x xs other h asked =
      let n = named_by _ (codes "export") (x ∷ xs) no_numbers other asked.verb asked.rows (met_export called x xs h) asked.is asked.names in
      go other n.0 n.2
    where
      go : (p : Program) → first_of (codes "FILE") asked.rows ≡ Some (x ∷ xs) → Names (codes "export") asked.rows p → p ≡ exports (x ∷ xs)
      go (formats name blocks version) file n = absurd (apart (codes "export") (codes "format") refl n.0)
      go (runs name) file n = absurd (apart (codes "export") (codes "run") refl n.0)
      go (checks name) file n = absurd (apart (codes "export") (codes "check") refl n.0)
      go (plays name seed count) file n = absurd (apart (codes "export") (codes "play") refl n.0)
      go (exports name) file n = ap exports (inside (sym n.1 ∙ file))

  -- a format of these values asks for these numbers
  values_of_format : (x blocks : ℕ) (xs : Text) (version : Version) (rows : List Row) (p : Program) (d : ℕ) (ds digit : Text) →
      AreDigits min_blocks max_file_blocks blocks d ds → version_numbered (digits_value 10 (without_leading_plus digit)) ≡ version → GivesFormat rows (x ∷ xs) (d ∷ ds) digit →
      Names (codes "format") rows p → p ≡ formats (x ∷ xs) blocks version
  values_of_format x blocks xs version rows (formats name given asked) d ds digit are value gives n =
      let same : given ≡ blocks = same_value min_blocks max_file_blocks blocks given d ds n.2.digits are (inside (sym n.2.given ∙ gives.blocks)) n.2.value in
      let digits : n.3.gives.digits ≡ digit = inside (sym n.3.gives.given ∙ gives.version) in
      let read = sym n.3.gives.value ∙ ap (λ (t : Text). digits_value 10 (without_leading_plus t)) digits in
      let one : asked ≡ version = n.3.is ∙ ap version_numbered read ∙ value in
      ap (λ (m : Text). formats m given asked) (inside (sym n.1 ∙ gives.file)) ∙ ap₂ (formats (x ∷ xs)) same one
  values_of_format x blocks xs version rows (runs name) d ds digit are value gives n = absurd (apart (codes "format") (codes "run") refl n.0)
  values_of_format x blocks xs version rows (checks name) d ds digit are value gives n = absurd (apart (codes "format") (codes "check") refl n.0)
  values_of_format x blocks xs version rows (plays name seed count) d ds digit are value gives n = absurd (apart (codes "format") (codes "play") refl n.0)
  values_of_format x blocks xs version rows (exports name) d ds digit are value gives n = absurd (apart (codes "format") (codes "export") refl n.0)

  only_format : (x blocks : ℕ) (xs : Text) (version : Version) (other : Program) → nat_eq x 45 ≡ false → min_blocks ≤ blocks → blocks ≤ max_file_blocks →
      Requests (all_words called x xs (decimal blocks) (version_words version)) other → other ≡ formats (x ∷ xs) blocks version
  only_format x blocks xs version other h least most asked =
      let digits = digits_of min_blocks max_file_blocks blocks least most (omega (arith, most)) in
      let digit = digit_of version in
      let half : Requests (all_words called x xs (digits.0 ∷ digits.1) (version_words version)) other =
      subst (λ (t : Text). Requests (all_words called x xs t (version_words version)) other) digits.2.is asked in
      let words : Requests (all_words called x xs (digits.0 ∷ digits.1) (codes "--version" ∷ (digit.0 ∷ []) ∷ [])) other =
      subst (λ (w : List Text). Requests (all_words called x xs (digits.0 ∷ digits.1) w) other) digit.1.words half in
      let n = named_by _ (codes "format") (x ∷ xs) (Some (digits.0 ∷ digits.1), Some (digit.0 ∷ []), None, None) other words.verb words.rows
      (met_format x digits.0 xs digits.1 h digits.2.plain digits.2.passes digit.0 digit.1.plain digit.1.passes called) words.is words.names in
      values_of_format x blocks xs version words.rows other digits.0 digits.1 (digit.0 ∷ []) digits.2 digit.1.value
      (record { file = n.0; blocks = ap (λ (p : Numbers). p.0) n.1; version = ap (λ (p : Numbers). p.1) n.1 }) n.2

  only_first : (x blocks : ℕ) (xs : Text) (other : Program) → nat_eq x 45 ≡ false → min_blocks ≤ blocks → blocks ≤ max_file_blocks →
      Requests (blocks_words called x xs (decimal blocks)) other → other ≡ formats (x ∷ xs) blocks One
  only_first x blocks xs other h least most asked =
      let digits = digits_of min_blocks max_file_blocks blocks least most (omega (arith, most)) in
      let words : Requests (blocks_words called x xs (digits.0 ∷ digits.1)) other = subst (λ (t : Text). Requests (blocks_words called x xs t) other) digits.2.is asked in
      let met = met_short x digits.0 xs digits.1 h digits.2.plain digits.2.passes called in
      let n = named_by _ (codes "format") (x ∷ xs) (Some (digits.0 ∷ digits.1), Some (codes "1"), None, None) other words.verb words.rows met words.is words.names in
      values_of_format x blocks xs One words.rows other digits.0 digits.1 (codes "1") digits.2 refl
      (record { file = n.0; blocks = ap (λ (p : Numbers). p.0) n.1; version = ap (λ (p : Numbers). p.1) n.1 }) n.2

  -- the words of a play, by the digits of its numbers
  abbrev play_words : ℕ → Text → Text → Text → List Text
  play_words x xs seed count = called ∷ codes "play" ∷ (x ∷ xs) ∷ codes "--seed" ∷ seed ∷ codes "--count" ∷ count ∷ []

  only_play : (x seed count : ℕ) (xs : Text) (other : Program) → nat_eq x 45 ≡ false → seed ≤ max_seed → count ≤ 1000000 →
      Requests (play_words x xs (decimal seed) (decimal count)) other → other ≡ plays (x ∷ xs) seed count
  only_play x seed count xs other h seeds counts asked =
      let first = digits_of 0 max_seed seed (omega arith) seeds (omega (arith, seeds)) in
      let second = digits_of 0 1000000 count (omega arith) counts (omega (arith, counts)) in
      let one = first.0 ∷ first.1 in
      let two = second.0 ∷ second.1 in
      let half : Requests (play_words x xs one (decimal count)) other = subst (λ (t : Text). Requests (play_words x xs t (decimal count)) other) first.2.is asked in
      let words : Requests (play_words x xs one two) other = subst (λ (t : Text). Requests (play_words x xs one t) other) second.2.is half in
      let met = met_play x first.0 second.0 xs first.1 second.1 h first.2.plain second.2.plain first.2.passes called in
      let n = named_by _ (codes "play") (x ∷ xs) (None, None, Some one, Some two) other words.verb words.rows met words.is words.names in
      go words.rows other first.0 second.0 first.1 second.1 first.2 second.2
      (record { file = n.0; seed = ap (λ (p : Numbers). p.2) n.1; count = ap (λ (p : Numbers). p.3) n.1 }) n.2
    where
      go : (rows : List Row) (p : Program) (d e : ℕ) (ds es : Text) → AreDigits 0 max_seed seed d ds → AreDigits 0 1000000 count e es →
          GivesPlay rows (x ∷ xs) (d ∷ ds) (e ∷ es) → Names (codes "play") rows p → p ≡ plays (x ∷ xs) seed count
      go rows (formats name blocks version) d e ds es are these gives n = absurd (apart (codes "play") (codes "format") refl n.0)
      go rows (runs name) d e ds es are these gives n = absurd (apart (codes "play") (codes "run") refl n.0)
      go rows (checks name) d e ds es are these gives n = absurd (apart (codes "play") (codes "check") refl n.0)
      go rows (exports name) d e ds es are these gives n = absurd (apart (codes "play") (codes "export") refl n.0)
      go rows (plays name given turns) d e ds es are these gives n =
          let seeds : given ≡ seed = same_value 0 max_seed seed given d ds n.2.digits are (inside (sym n.2.given ∙ gives.seed)) n.2.value in
          let counts : turns ≡ count = same_value 0 1000000 count turns e es n.3.digits these (inside (sym n.3.given ∙ gives.count)) n.3.value in
          ap (λ (m : Text). plays m given turns) (inside (sym n.1 ∙ gives.file)) ∙ ap₂ (plays (x ∷ xs)) seeds counts

  only : (program other : Program) → IsProper program → Requests (called ∷ program_words program) other → other ≡ program
  only (formats [] blocks version) other proper asked = absurd (omega (arith, proper.0.some))
  only (formats (x ∷ xs) blocks version) other proper asked = only_format x blocks xs version other (ne_eqb _ _ proper.0.plain) proper.1 proper.2 asked
  only (runs []) other proper asked = absurd (omega (arith, proper.some))
  only (runs (x ∷ xs)) other proper asked = only_run x xs other (ne_eqb _ _ proper.plain) asked
  only (checks []) other proper asked = absurd (omega (arith, proper.some))
  only (checks (x ∷ xs)) other proper asked = only_check x xs other (ne_eqb _ _ proper.plain) asked
  only (exports []) other proper asked = absurd (omega (arith, proper.some))
  only (exports (x ∷ xs)) other proper asked = only_export x xs other (ne_eqb _ _ proper.plain) asked
  only (plays [] seed count) other proper asked = absurd (omega (arith, proper.0.some))
  only (plays (x ∷ xs) seed count) other proper asked = only_play x seed count xs other (ne_eqb _ _ proper.0.plain) proper.1 proper.2 asked

  only_in_short : (program other : Program) → IsProper program → Requests (called ∷ short_words program) other → other ≡ program
  only_in_short (formats [] blocks version) other proper asked = absurd (omega (arith, proper.0.some))
  only_in_short (formats (x ∷ xs) blocks One) other proper asked = only_first x blocks xs other (ne_eqb _ _ proper.0.plain) proper.1 proper.2 asked
  only_in_short (formats (x ∷ xs) blocks Two) other proper asked = only (formats (x ∷ xs) blocks Two) other proper asked
  only_in_short (formats (x ∷ xs) blocks Three) other proper asked = only (formats (x ∷ xs) blocks Three) other proper asked
  only_in_short (runs name) other proper asked = only (runs name) other proper asked
  only_in_short (checks name) other proper asked = only (checks name) other proper asked
  only_in_short (exports name) other proper asked = only (exports name) other proper asked
  only_in_short (plays name seed count) other proper asked = only (plays name seed count) other proper asked

pub plain_only : (words : List Text) (program other : Program) → Asks words program → Requests words other → other ≡ program
plain_only words program other asks asked = elim asks.are [
  | inl are ↦ only asks.called program other asks.proper (subst (λ (w : List Text). Requests w other) are asked)
  | inr are ↦ only_in_short asks.called program other asks.proper (subst (λ (w : List Text). Requests w other) are asked)
]
