-- The words of an image of 8 blocks that a table defines.
use Rattle.std.specs.Prelude.{◌*◌, ℕ, List, replicate}
use Rattle.bp_layout.specs.Stores.{after_stores}
use Rattle.bp_layout.specs.Words.{Image}
use Rattle.bp_limits.specs.Limits.{block_words, min_blocks}

-- The image with these stores over words of 0.
unfoldable pub laid_image : List (ℕ × ℕ) → Image
laid_image stores = after_stores (replicate (min_blocks * block_words) 0) stores
