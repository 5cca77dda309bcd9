-- The parts of a file system, before and after a change of its blocks.
use Rattle.std.specs.Prelude.{◌≡◌, length}
use Rattle.bp_free.specs.declared.parts.Parts.{Parts}

-- The parts keep their free inodes, their link counts and the blocks of the snapshot, and their set of free blocks
-- keeps its length. The region and the members of the set may change.
pub record KeepsSets {R : Type 0} (old new : Parts R) : Type 0 where
  pub block_room : length new.free_blocks ≡ length old.free_blocks
  pub free_inodes : new.free_inodes ≡ old.free_inodes
  pub link_counts : new.link_counts ≡ old.link_counts
  pub snapshot_blocks : new.snapshot_blocks ≡ old.snapshot_blocks
