-- Powers of 512 as powers of 2.
use Rattle.std.proofs.Common.{◌≡◌, ℕ, zero, suc, ◌+◌, ◌*◌, ◌≤◌, ◌^◌, ◌/◌, ◌%◌, refl, sym, ◌∙◌, ap, arith}
use Rattle.std.proofs.lemmas.Nat.{pow-add, shl_whole}
use Rattle.std.proofs.Math.Nat.{pow-suc}
use Rattle.bp_limits.specs.Limits.{block_size, block_words}
use Rattle.pm_words.specs.Digits.{digit, max_level}

pub power_of_two : (level : ℕ) → 2 ^ (9 * level) ≡ block_words ^ level
power_of_two zero = refl
power_of_two (suc level) =
    let next : 9 * suc level ≡ 9 * level + 9 = omega arith in
    ap (λ n. 2 ^ n) next ∙ pow-add 2 (9 * level) 9 ∙ ap (λ n. n * block_words) (power_of_two level)
    ∙ sym (pow-suc block_words level)

pub shifted_span : (level : ℕ) → level ≤ max_level → block_size * 2 ^ (9 * level) % 2 ^ 64 ≡ block_size * block_words ^ level
shifted_span level low = shl_whole block_size 13 (9 * level) 64 (omega arith) (omega arith) ∙ ap (λ n. block_size * n) (power_of_two level)

pub shifted_digit : (number level : ℕ) → number / 2 ^ (9 * level) % block_words ≡ digit number level
shifted_digit number level = rw (power_of_two level) refl
