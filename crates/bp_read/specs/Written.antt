-- The words that store a name.
use Rattle.std.specs.Prelude.{◌≡◌, ℕ, ◌+◌, ◌/◌, ◌%◌, ◌<◌, length, slice_index}
use Rattle.bp_layout.specs.Paths.{Name}
use Rattle.bp_layout.specs.Words.{Image, word, byte_of}

-- how many words a name takes: one for its length, and one for each eight bytes, the last perhaps not full
abbrev pub taken_words : Name → ℕ
taken_words name = 1 + (length name + 7) / 8

-- the entry at this place has the length and the bytes of this name
pub record HasNameAt (image : Image) (place : ℕ) (name : Name) : Type 0 where
  pub count : word image (place + 1) ≡ length name
  pub bytes : (o : ℕ) → o < length name → byte_of (word image (place + 2 + o / 8)) (o % 8) ≡ slice_index name o
