-- A region as a scan reads it, and what a scan of an image finds.
use Rattle.std.specs.Prelude.{◌≡◌, ◌*◌, ℕ, List, [], length}
use Rattle.bp_free.specs.Set.{Set, has}
use Rattle.bp_layout.specs.Free.{AreFreeBlocks}
use Rattle.bp_layout.specs.Names.{AreCounts}
use Rattle.bp_layout.specs.Trees.{AreInSnapshot}
use Rattle.bp_layout.specs.Whole.{IsFileSystem}
use Rattle.bp_layout.specs.Words.{Image, block_count, word}
use Rattle.bp_limits.specs.Limits.{block_inodes, super_magic}
use Rattle.bp_roles.specs.Mounted.{roles_of}
use Rattle.bp_roles.specs.Seen.{MemoryByRoles}
use Rattle.bp_layout.specs.Totals.{HasTotals}
use Rattle.bp_layout.specs.declared.totals.Totals.{Totals}

-- The region is seen as a mount sees it, and its log is empty: what is seen is its image `by_roles`.
pub record IsSeenMounted (region : MemoryByRoles) : Type 0 where
  pub fresh : region.memory.events ≡ []
  pub roles : region.roles ≡ roles_of (word region.memory.base super_magic)

-- The image is a file system. A scan found the blocks of its snapshot, the blocks that are in neither tree, the
-- number of links of each inode in the first tree, and the totals.
pub record ScanFinds (image : Image) (snapshot blocks : Set) (counts : List ℕ) (totals : Totals) : Type 0 where
  pub whole : IsFileSystem image
  pub snapshot_blocks : AreInSnapshot image (has snapshot)
  pub free : AreFreeBlocks image (has snapshot) (has blocks)
  pub block_room : length blocks ≡ block_count image
  pub named : AreCounts image counts
  pub inode_room : length counts ≡ block_inodes * block_count image
  pub held : HasTotals image totals
