-- Plain words are taken.
use Rattle.bp_limits.specs.Limits.{max_file_blocks, min_blocks}
use Rattle.std.proofs.Common.{◌≡◌, ℕ, ◌≤◌, inl, inr, List, [], ◌∷◌, false, nat_eq, refl, sym, subst, arith}
use Rattle.std.specs.Prelude.{codes, decimal}
use Rattle.std.proofs.lemmas.Bool.{ne_eqb}
use Rattle.clap.specs.Words.{Text}
use Rattle.clap.proofs.OnLiterals.{clap_on_literals}
use Rattle.bp_command.specs.Commands.{IsTaken}
use Rattle.bp_limits.specs.declared.version.Version.{Version}
use Rattle.bp_limits.specs.declared.version.Version.TheVariants.{One, Two, Three}
use Rattle.bp_command.specs.Programs.{Asks, IsProper, Program, max_seed, program_words, short_words, version_words}
use Rattle.bp_command.proofs.Walking.{some_name}
use Rattle.bp_command.proofs.FormatWords.{taken_format, taken_short}
use Rattle.bp_command.proofs.PlayWords.{taken_play}
use Rattle.bp_command.specs.Programs.Program.{formats, runs, checks, plays, exports}
use Rattle.bp_command.proofs.PlainDigits.{all_words, blocks_words, digit_of, digits_of}

taken_run : (called : Text) (x : ℕ) (xs : Text) → nat_eq x 45 ≡ false → IsTaken (called ∷ codes "run" ∷ (x ∷ xs) ∷ [])
unfolding IsTaken clap_on_literals
taken_run called x xs h = let n = some_name x xs in simp (h, n) refl

taken_check : (called : Text) (x : ℕ) (xs : Text) → nat_eq x 45 ≡ false → IsTaken (called ∷ codes "check" ∷ (x ∷ xs) ∷ [])
unfolding IsTaken clap_on_literals
taken_check called x xs h = let n = some_name x xs in simp (h, n) refl

taken_export : (called : Text) (x : ℕ) (xs : Text) → nat_eq x 45 ≡ false → IsTaken (called ∷ codes "export" ∷ (x ∷ xs) ∷ [])
unfolding IsTaken clap_on_literals
taken_export called x xs h = let n = some_name x xs in simp (h, n) refl

module _ (called : Text) where
  named_version : (x blocks : ℕ) (xs : Text) (version : Version) → nat_eq x 45 ≡ false → min_blocks ≤ blocks → blocks ≤ max_file_blocks →
      IsTaken (all_words called x xs (decimal blocks) (version_words version))
  named_version x blocks xs version h least most =
      let digits = digits_of min_blocks max_file_blocks blocks least most (omega (arith, most)) in
      let digit = digit_of version in
      subst (λ (w : List Text). IsTaken (all_words called x xs (decimal blocks) w)) (sym digit.1.words)
      (
      subst (λ (t : Text). IsTaken (all_words called x xs t (codes "--version" ∷ (digit.0 ∷ []) ∷ []))) (sym digits.2.is)
      (taken_format x digits.0 xs digits.1 h digits.2.plain digits.2.passes digit.0 digit.1.plain digit.1.passes called)
      )

  no_version : (x blocks : ℕ) (xs : Text) → nat_eq x 45 ≡ false → min_blocks ≤ blocks → blocks ≤ max_file_blocks → IsTaken (blocks_words called x xs (decimal blocks))
  no_version x blocks xs h least most =
      let digits = digits_of min_blocks max_file_blocks blocks least most (omega (arith, most)) in
      subst (λ (t : Text). IsTaken (blocks_words called x xs t)) (sym digits.2.is) (taken_short x digits.0 xs digits.1 h digits.2.plain digits.2.passes called)

  taken : (program : Program) → IsProper program → IsTaken (called ∷ program_words program)
  taken (formats [] blocks version) proper = absurd (omega (arith, proper.0.some))
  taken (formats (x ∷ xs) blocks version) proper = named_version x blocks xs version (ne_eqb _ _ proper.0.plain) proper.1 proper.2
  taken (runs []) proper = absurd (omega (arith, proper.some))
  taken (runs (x ∷ xs)) proper = taken_run called x xs (ne_eqb _ _ proper.plain)
  taken (checks []) proper = absurd (omega (arith, proper.some))
  taken (checks (x ∷ xs)) proper = taken_check called x xs (ne_eqb _ _ proper.plain)
  taken (exports []) proper = absurd (omega (arith, proper.some))
  taken (exports (x ∷ xs)) proper = taken_export called x xs (ne_eqb _ _ proper.plain)
  taken (plays [] seed count) proper = absurd (omega (arith, proper.0.some))
  taken (plays (x ∷ xs) seed count) proper =
      let first = digits_of 0 max_seed seed (omega arith) proper.1 (omega (arith, proper.1)) in
      let second = digits_of 0 1000000 count (omega arith) proper.2 (omega (arith, proper.2)) in
      subst (λ (t : Text). IsTaken (called ∷ codes "play" ∷ (x ∷ xs) ∷ codes "--seed" ∷ t ∷ codes "--count" ∷ decimal count ∷ [])) (sym first.2.is)
      (
      subst (λ (t : Text). IsTaken (called ∷ codes "play" ∷ (x ∷ xs) ∷ codes "--seed" ∷ (first.0 ∷ first.1) ∷ codes "--count" ∷ t ∷ [])) (sym second.2.is)
      (taken_play x first.0 second.0 xs first.1 second.1 (ne_eqb _ _ proper.0.plain) first.2.plain second.2.plain first.2.passes called second.2.passes)
      )

  taken_in_short : (program : Program) → IsProper program → IsTaken (called ∷ short_words program)
  taken_in_short (formats [] blocks version) proper = absurd (omega (arith, proper.0.some))
  taken_in_short (formats (x ∷ xs) blocks One) proper = no_version x blocks xs (ne_eqb _ _ proper.0.plain) proper.1 proper.2
  taken_in_short (formats (x ∷ xs) blocks Two) proper = taken (formats (x ∷ xs) blocks Two) proper
  taken_in_short (formats (x ∷ xs) blocks Three) proper = taken (formats (x ∷ xs) blocks Three) proper
  taken_in_short (runs name) proper = taken (runs name) proper
  taken_in_short (checks name) proper = taken (checks name) proper
  taken_in_short (exports name) proper = taken (exports name) proper
  taken_in_short (plays name seed count) proper = taken (plays name seed count) proper

pub plain_taken : (words : List Text) (program : Program) → Asks words program → IsTaken words
plain_taken words program asks = elim asks.are [
  | inl are ↦ subst IsTaken (sym are) (taken asks.called program asks.proper)
  | inr are ↦ subst IsTaken (sym are) (taken_in_short asks.called program asks.proper)
]
