-- The memory of a scan.
use Rattle.std.specs.Prelude.{◌≡◌, ◌*◌, length}
use Rattle.bp_limits.specs.Limits.{block_inodes}
use Rattle.bp_layout.specs.Words.{Image, block_count}
use Rattle.bp_scan.specs.declared.pending.Pending.TheInside.{Inside}
use Rattle.bp_scan.specs.declared.work.Scan.{Scan}

-- The memory that a scan has: a flag for each block, and two flags and a count for each inode. There are 64 inodes to a
-- block.
pub record HasScanMemory (image : Image) (work : Scan) : Type 0 where
  pub blocks : length work.blocks ≡ block_count image
  pub inodes : length work.inodes ≡ block_inodes * block_count image
  pub todo : length work.todo ≡ block_inodes * block_count image
  pub counts : length work.counts ≡ block_inodes * block_count image

-- The memory that is reserved between scans, without the sets that a scan borrows.
pub record HasReserved (pending : Inside) : Type 0 where
  pub flags : length pending.work.todo ≡ pending.inodes
