-- A tree as its top block and the subtrees in the slots of that block, each one level lower.
use Rattle.std.specs.Prelude.{◌≡◌, ℕ, suc, ◌+◌, ◌-◌, ◌*◌, ◌/◌, ◌%◌, ◌<◌, ◌≤◌, min}
use Rattle.bp_layout.specs.Words.{Image, block_count, block_of, height_of, slot_word}
use Rattle.bp_layout.specs.Tree.{span, HasBlock, IsSound}
use Rattle.bp_limits.specs.Limits.{block_size, max_height}

-- how many bytes of a tree of this size are in the subtree of a slot, if the subtrees have this level
abbrev pub piece : ℕ → ℕ → ℕ → ℕ
piece size level slot = min (size - slot * span level) (span level)

-- the root word of a tree of this height over the block in the slot
abbrev pub child : Image → ℕ → ℕ → ℕ → ℕ
child image block level slot = slot_word image block slot + level

-- a tree one level higher than `level`, in whose top block each live slot has a valid pointer
pub record HasChildren (image : Image) (root size level : ℕ) : Type 0 where
  pub height : height_of root ≡ suc level
  pub low : suc level ≤ max_height
  pub fits : size ≤ span (suc level)
  pub words : (c : ℕ) → c * span level < size → slot_word image (block_of root) c % block_size ≡ 0

-- the subtrees in the slots are sound, and no block is in two of them
pub record Joins (image : Image) (root size level : ℕ) : Type 0 where
  pub bits : root / 8 % 512 ≡ 0
  pub in_range : block_of root < block_count image
  pub sound : (c : ℕ) → c * span level < size → IsSound image (child image (block_of root) level c) (piece size level c)
  pub own : (c : ℕ) → c * span level < size → HasBlock image (child image (block_of root) level c) (piece size level c)
      (block_of root) → ⊥
  pub apart : (c e b : ℕ) → c * span level < size → e * span level < size
      → HasBlock image (child image (block_of root) level c) (piece size level c) b →
      HasBlock image (child image (block_of root) level e) (piece size level e) b → c ≡ e
