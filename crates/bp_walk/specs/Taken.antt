-- Blocks that are taken out of a set, one for each of some pointers, given by their places.
use Rattle.std.specs.Prelude.{◌≡◌, ◌≢◌, ℕ, length, true, false}
use Rattle.bp_free.specs.Set.{Set, has}
use Rattle.bp_layout.specs.Words.{Image, word, block_of}

-- The block to which the pointer at a place points.
abbrev pub block_at : Image → ℕ → ℕ
block_at image place = block_of (word image place)

-- One of these pointers points to the block.
pub record NamesBlock (image : Image) (P : ℕ → Type 0) (block : ℕ) : Type 0 where
  pub place : ℕ
  pub is : P place
  pub named : block_at image place ≡ block

-- The blocks to which the pointers at these places point were in the old set, no two of the pointers share a block,
-- and the new set is the old one without these blocks.
pub record Takes (image : Image) (P : ℕ → Type 0) (old new : Set) : Type 0 where
  pub room : length new ≡ length old
  pub was : (p : ℕ) → P p → block_at image p ≢ 0 → has old (block_at image p) ≡ true
  pub gone : (p : ℕ) → P p → block_at image p ≢ 0 → has new (block_at image p) ≡ false
  pub named : (b : ℕ) → has old b ≡ true → has new b ≡ false → NamesBlock image P b
  pub less : (b : ℕ) → has old b ≡ false → has new b ≡ false
  pub once : (p q : ℕ) → P p → P q → block_at image p ≢ 0 → block_at image p ≡ block_at image q → p ≡ q
