-- The length of an image file.
use Rattle.std.specs.Prelude.{ℕ, ◌+◌, ◌-◌, ◌*◌, ◌/◌, min, max}
use Rattle.bp_limits.specs.Limits.{block_size, min_blocks}

-- The image length in bytes that is nearest to a length: rounded up to whole blocks, and at least `min_blocks` and at
-- most `most` of them.
abbrev pub wanted_length : ℕ → ℕ → ℕ
wanted_length most len =
    min (block_size * most) (max (block_size * min_blocks) (block_size * ((len + (block_size - 1)) / block_size)))
