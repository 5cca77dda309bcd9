-- When words have the size of an image, which version an image has, and when it is formatted.
use Rattle.std.specs.Prelude.{◌≡◌, ◌*◌, ◌≤◌, length}
use Rattle.bp_limits.specs.Limits.{block_words, magic, max_blocks, min_blocks, super_blocks, super_magic, version_at}
use Rattle.bp_limits.specs.declared.version.Version.{Version}
use Rattle.bp_layout.specs.Words.{Image, block_count, word}

-- the words are whole blocks, and their number is within the limits of an image
pub record IsSized (image : Image) : Type 0 where
  pub whole : length image ≡ block_words * block_count image
  pub at_least : min_blocks ≤ block_count image
  pub at_most : block_count image ≤ max_blocks

-- the version of the magic number in word 0
abbrev pub version_of : Image → Version
version_of image = version_at (word image super_magic)

-- a sized image with the magic number of its version and the right number of blocks
pub record IsFormatted (image : Image) : Type 0 where
  pub sized : IsSized image
  pub has_magic : word image super_magic ≡ magic (version_of image)
  pub counted : word image super_blocks ≡ block_count image
