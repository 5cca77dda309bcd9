-- The sets that a volume holds: the free blocks and inodes of an image.
use Rattle.std.specs.Prelude.{◌≡◌, ℕ, ◌*◌, length, Bool}
use Rattle.bp_free.specs.Set.{Set, has}
use Rattle.bp_layout.specs.Free.{AreUnheld, AreUnused}
use Rattle.bp_free.specs.declared.parts.Parts.{Parts}
use Rattle.bp_layout.specs.Inode.{size_of}
use Rattle.bp_layout.specs.Names.{AreCounts}
use Rattle.bp_layout.specs.Reached.{IsReached}
use Rattle.bp_layout.specs.Words.{Image, block_count}
use Rattle.bp_limits.specs.Limits.{block_inodes}

-- The sets have exactly the blocks that none of these trees has, up to a size for each, and that are not in the
-- snapshot, and the inodes that are none of these trees. They have room for all blocks and inodes.
pub record AreExactFor (image : Image) (Tree : ℕ → Type 0) (bound : ℕ → ℕ) (in_snapshot : ℕ → Bool)
    (blocks inodes : Set) : Type 0 where
  pub block_room : length blocks ≡ block_count image
  pub inode_room : length inodes ≡ block_inodes * block_count image
  pub free_blocks : AreUnheld image Tree bound in_snapshot (has blocks)
  pub free_inodes : AreUnused image Tree (has inodes)

-- the sets are exactly the free blocks and the free inodes of the image
abbrev pub AreExact : Image → (ℕ → Bool) → Set → Set → Type 0
AreExact image in_snapshot = AreExactFor image (IsReached image) (size_of image) in_snapshot

-- the blocks of the snapshot of the parts of a file system
abbrev pub in_snapshot_of : {R : Type 0} → Parts R → ℕ → Bool
in_snapshot_of parts = has parts.snapshot_blocks

-- The sets and the link counts of the parts of a file system are those of an image.
pub record IsExact {R : Type 0} (image : Image) (parts : Parts R) : Type 0 where
  pub sets : AreExact image (in_snapshot_of parts) parts.free_blocks parts.free_inodes
  pub counts : AreCounts image parts.link_counts
  pub count_room : length parts.link_counts ≡ block_inodes * block_count image
  pub snapshot_room : length parts.snapshot_blocks ≡ block_count image
