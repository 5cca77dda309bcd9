-- Numbers in base 512, since a block has 512 words.
use Rattle.std.specs.Prelude.{ℕ, ◌/◌, ◌%◌, ◌^◌}
use Rattle.bp_limits.specs.Limits.{block_words}

-- A digit of a number in base 512, the lowest at level 0.
abbrev pub digit : ℕ → ℕ → ℕ
digit number level = number / block_words ^ level % block_words

-- The maximum level whose span, in bytes, is below 2 ^ 64.
abbrev pub max_level : ℕ
max_level = 5
