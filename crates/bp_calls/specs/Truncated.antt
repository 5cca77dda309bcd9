-- The blocks of a tree that hold no byte below a smaller size, by its topmost block and the subtrees below that.
use Rattle.std.specs.Prelude.{◌≡◌, ◌-◌, ◌*◌, ◌<◌, ℕ}
use Rattle.bp_layout.specs.Pieces.{child, piece}
use Rattle.bp_layout.specs.Tree.{span}
use Rattle.bp_layout.specs.Words.{Image, block_of}
use Rattle.bp_changes.specs.Freed.{IsTruncated}

-- The topmost block, if nothing is left of the tree.
pub record IsTopTruncated (top shorter block : ℕ) : Type 0 where
  pub whole : shorter ≡ 0
  pub is : block ≡ top

-- The topmost block if nothing is left, or a freed block of one of the first `slots` subtrees, whose roots are at this
-- level.
pub data IsTruncatedIn (image : Image) (root size level shorter slots block : ℕ) : Type 0 where
  top : IsTopTruncated (block_of root) shorter block → IsTruncatedIn image root size level shorter slots block
  below : (slot : ℕ) → slot < slots → slot * span level < size →
      IsTruncated image (child image (block_of root) level slot) (piece size level slot)
      (shorter - slot * span level) block → IsTruncatedIn image root size level shorter slots block
