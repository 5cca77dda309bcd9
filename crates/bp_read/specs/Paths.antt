-- Word paths that stay within an image.
use Rattle.std.specs.Prelude.{ℕ, ◌+◌, ◌*◌, ◌<◌, [], ◌∷◌}
use Rattle.bp_limits.specs.Limits.{block_words, super_root}
use Rattle.bp_layout.specs.Words.{Image, word, block_of, block_count}
use Rattle.bp_layout.specs.WordPaths.{WordPath}

-- each word named by a proper prefix of the path points into the image, if the path starts at the pointer at a place
abbrev pub IsInRangeFrom : Image → ℕ → WordPath → Type 0
IsInRangeFrom image place [] = Unit {0}
IsInRangeFrom image place (slot ∷ path) = (block_of (word image place) < block_count image)
    × IsInRangeFrom image (block_words * block_of (word image place) + slot) path

abbrev pub IsInRange : Image → WordPath → Type 0
IsInRange image path = IsInRangeFrom image super_root path
