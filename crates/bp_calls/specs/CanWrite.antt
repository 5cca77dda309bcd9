-- Preconditions for a write into a file.
use Rattle.std.specs.Prelude.{◌≡◌, ℕ, ◌+◌, ◌≤◌, List, [], length, Bool}
use Rattle.bp_changes.specs.Sets.{AreExact}
use Rattle.bp_free.specs.Set.{Set}
use Rattle.bp_layout.specs.Inode.{IsFile}
use Rattle.bp_layout.specs.Need.Change.{writes}
use Rattle.bp_layout.specs.Reached.{IsReached}
use Rattle.bp_layout.specs.WellFormed.{IsWellFormed}
use Rattle.bp_layout.specs.Formatted.{version_of}
use Rattle.bp_layout.specs.Words.{Image}
use Rattle.bp_limits.specs.CallLimits.{greatest_size, max_write}
use Rattle.bp_calls.specs.Space.{HasRoomThawed}
use Rattle.pm_region.specs.Memory.{Memory, current_words}
use Rattle.bp_layout.specs.Thaw.{thawed}

-- Inode `i` is a file. There are bytes, no more than one call may write, and they end within the greatest size of a
-- file in the image's version.
pub record CanWrite (image : Image) (i offset : ℕ) (bytes : List ℕ) : Type 0 where
  pub reached : IsReached image i
  pub file : IsFile image i
  pub some : 1 ≤ length bytes
  pub short : length bytes ≤ max_write
  pub fits : offset + length bytes ≤ greatest_size (version_of image)

-- `CanWrite`, in a well-formed image with exact sets.
pub record CanWriteInto (in_snapshot : ℕ → Bool) (image : Image) (blocks inodes : Set) (i offset : ℕ) (bytes : List ℕ)
    : Type 0 where
  pub well_formed : IsWellFormed image
  pub exact : AreExact image in_snapshot blocks inodes
  pub can : CanWrite image i offset bytes

-- `CanWriteInto`, with no block left to thaw. If enough blocks are free, the log has room for the change.
pub record CanWriteThawed (in_snapshot : ℕ → Bool) (memory : Memory) (blocks inodes : Set) (i offset : ℕ) (bytes : List ℕ) : Type 0 where
  pub into : CanWriteInto in_snapshot (current_words memory) blocks inodes i offset bytes
  pub clear : thawed (current_words memory) in_snapshot (writes i offset (length bytes)) ≡ []
  pub room : HasRoomThawed memory blocks (writes i offset (length bytes))
