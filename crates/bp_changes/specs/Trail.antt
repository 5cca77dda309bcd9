-- A trail names a word by the slots on the way to it, the last slot first. The empty trail is the root word of the
-- inode file.
use Rattle.std.specs.Prelude.{◌≡◌, ◌≢◌, ℕ, zero, suc, ◌+◌, ◌*◌, ◌<◌, List, [], ◌∷◌, length, slice_index}
use Rattle.bp_limits.specs.Limits.{block_words, super_root}
use Rattle.bp_layout.specs.Words.{Image, word, block_count, block_of, slot_word}

abbrev pub Trail : Type 0
Trail = List ℕ

-- the word to which a trail leads; 0 if a pointer above it is null
unfoldable pub word_on : Image → Trail → ℕ
word_on image [] = word image super_root
word_on image (slot ∷ above) = slot_word image (block_of (word_on image above)) slot

-- the block to which the word of a trail points
abbrev pub block_on : Image → Trail → ℕ
block_on image trail = block_of (word_on image trail)

-- the place of the word of a trail
abbrev pub place_on : Image → Trail → ℕ
place_on image [] = super_root
place_on image (slot ∷ above) = block_words * block_on image above + slot

-- a set of pointers to follow, given by their trails; with each trail it has all those above it
pub record ArePointers (Pointer : Trail → Type 0) : Type 0 where
  pub top : Pointer []
  pub above : (slot : ℕ) (p : Trail) → Pointer (slot ∷ p) → Pointer p
  pub slots : (slot : ℕ) (p : Trail) → Pointer (slot ∷ p) → slot < block_words

-- the pointers of an image lead to blocks of it, no two to one block
pub record IsSkeleton (image : Image) (Pointer : Trail → Type 0) : Type 0 where
  pub whole : length image ≡ block_words * block_count image
  pub in_range : (p : Trail) → Pointer p → block_on image p < block_count image
  pub once : (p q : Trail) → Pointer p → Pointer q → block_on image p ≢ 0 → block_on image p ≡ block_on image q → p ≡ q

-- the word at the end of a trail is in the image: the pointer above it is not null
pub data IsPlaced (image : Image) (Pointer : Trail → Type 0) : Trail → Type 0 where
  at_top : IsPlaced image Pointer []
  in_block : (slot : ℕ) (p : Trail) → Pointer p → block_on image p ≢ 0 → slot < block_words
      → IsPlaced image Pointer (slot ∷ p)

-- a pointer of the image leads to the block
pub record LeadsTo (image : Image) (Pointer : Trail → Type 0) (block : ℕ) : Type 0 where
  pub trail : Trail
  pub pointer : Pointer trail
  pub named : block_on image trail ≡ block
  pub not_null : block ≢ 0

-- the trail of the first slots of a word path
abbrev pub trail_of : List ℕ → ℕ → Trail
trail_of path zero = []
trail_of path (suc count) = slice_index path count ∷ trail_of path count
