-- No directory is left to be read.
use Rattle.std.proofs.Common.{◌≡◌, ℕ, ◌<◌, false}
use Rattle.bp_free.specs.Set.{has}
use Rattle.bp_layout.specs.Words.{Image}
use Rattle.bp_layout.specs.Inode.{inode_count}
use Rattle.bp_layout.specs.Free.{AreFreeBlocks, AreFreeInodes}
use Rattle.bp_layout.specs.Names.{AreCounts}
use Rattle.bp_layout.specs.Reached.{IsReached}
use Rattle.bp_layout.specs.WellFormed.{IsWellFormed}
use Rattle.bp_layout.proofs.ChecksLaws.{found_reached}
use Rattle.bp_scan.specs.Reading.{IsReading}
use Rattle.bp_scan.specs.Scanned.{AreOthersLive}
use Rattle.bp_scan.specs.declared.work.Scan.{Scan}
use Rattle.bp_scan.proofs.Ending.{end_well_formed, end_blocks, end_others, end_inodes, end_counts}
use Rattle.bp_layout.specs.Thaw.{none_in_snapshot}

module _ (image : Image) (work : Scan) (reading : IsReading image work 0 0) (none : (i : ℕ) → has work.todo i ≡ false) where
  pub all_well_formed : IsWellFormed image
  all_well_formed = end_well_formed image work.blocks work.inodes work.todo reading.ready.formatted reading.ready.inode_blocks reading.ready.some_inodes reading.root_kind reading.range reading.midway none

  pub all_free_blocks : AreFreeBlocks image none_in_snapshot (has work.blocks)
  all_free_blocks = end_blocks image work.blocks work.inodes work.todo reading.ready.formatted reading.ready.inode_blocks reading.ready.some_inodes reading.root_kind reading.range reading.midway none

  pub all_others_live : AreOthersLive image (has work.blocks)
  all_others_live = end_others image work.blocks work.inodes work.todo reading.ready.formatted reading.ready.inode_blocks reading.ready.some_inodes reading.root_kind reading.range reading.midway none

  pub all_free_inodes : AreFreeInodes image (has work.inodes)
  all_free_inodes = end_inodes image work.blocks work.inodes work.todo reading.ready.formatted reading.ready.inode_blocks reading.ready.some_inodes reading.root_kind reading.range reading.midway none

  pub all_counts : AreCounts image work.counts
  all_counts =
      end_counts image work.blocks work.inodes work.todo reading.ready.formatted reading.ready.inode_blocks reading.ready.some_inodes reading.root_kind reading.range reading.midway none work.counts reading.counts

  pub all_reached : (i : ℕ) → i < inode_count image → has work.inodes i ≡ false → IsReached image i
  all_reached i low gone = found_reached image i (reading.midway.under_way.scanned.found i (low, gone))
