-- Stores to an image, one after the other.
use Rattle.std.specs.Prelude.{◌≡◌, ◌≢◌, ℕ, ◌/◌, List, [], ◌∷◌, length, slice_set}
use Rattle.bp_limits.specs.Limits.{block_words}
use Rattle.bp_layout.specs.Words.{Image, word}

-- the image after these stores, each of a value to a place, in order
abbrev pub after_stores : Image → List (ℕ × ℕ) → Image
after_stores image [] = image
after_stores image (store ∷ stores) = after_stores (slice_set image store.0 store.1) stores

-- the second image has the same words as the first, except in one block
pub record EqualBut (block : ℕ) (old new : Image) : Type 0 where
  pub whole : length new ≡ length old
  pub others : (place : ℕ) → place / block_words ≢ block → word new place ≡ word old place
