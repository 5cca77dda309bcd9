-- The empty file system is well formed.
use Rattle.std.proofs.Common.{◌≡◌, ℕ, ◌/◌, ◌*◌, ◌<◌, ◌∙◌, sym, ap, arith}
use Rattle.bp_layout.specs.WellFormed.{IsWellFormed}
use Rattle.bp_layout.specs.Words.{block_count, word}
use Rattle.bp_limits.specs.declared.version.Version.TheVariants.{One}
use Rattle.bp_layout.proofs.Format.{HasFormat, format_well_formed}
use Rattle.bp_layout.proofs.LastValue.{AllWithinImage, last_value}
use Rattle.bp_samples.specs.Laid.{laid_image}
use Rattle.bp_samples.specs.declared.images.TheConstants.{EMPTY}
use Rattle.bp_samples.proofs.LaidLaws.{length-laid, word-laid}

empty_word : (place : ℕ) → place < 4096 → word (laid_image EMPTY) place ≡ last_value EMPTY place 0
empty_word place low = let within : AllWithinImage 4096 EMPTY = omega arith in word-laid EMPTY place low within

empty_blocks : block_count (laid_image EMPTY) ≡ 8
empty_blocks = ap (λ n. n / 512) (length-laid EMPTY)

empty_has_format : HasFormat (laid_image EMPTY) One
empty_has_format = record {
  has_magic = empty_word 0 (omega arith);
  counted = empty_word 1 (omega arith) ∙ sym empty_blocks;
  root = empty_word 2 (omega arith);
  size = empty_word 3 (omega arith);
  no_second_size = λ allows. absurd (cc);
  root_kind = empty_word 520 (omega arith);
  root_root = empty_word 521 (omega arith);
  root_size = empty_word 522 (omega arith);
  root_attributes = λ f least most. absurd (omega (arith, least, most));
}

pub empty_well_formed : IsWellFormed (laid_image EMPTY)
empty_well_formed =
    format_well_formed (laid_image EMPTY) One empty_has_format (length-laid EMPTY ∙ sym (ap (λ n. 512 * n) empty_blocks)) (omega (arith, empty_blocks)) (omega (arith, empty_blocks))
