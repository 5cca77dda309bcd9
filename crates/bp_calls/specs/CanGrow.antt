-- Preconditions for making a file longer without new bytes.
use Rattle.std.specs.Prelude.{◌≡◌, ℕ, ◌<◌, ◌≤◌, [], Bool}
use Rattle.bp_free.specs.Set.{Set}
use Rattle.bp_layout.specs.Inode.{IsFile, size_of}
use Rattle.bp_layout.specs.Need.Change.{resizes}
use Rattle.bp_layout.specs.Reached.{IsReached}
use Rattle.bp_layout.specs.WellFormed.{IsWellFormed}
use Rattle.bp_layout.specs.Formatted.{version_of}
use Rattle.bp_limits.specs.CallLimits.{greatest_size}
use Rattle.bp_changes.specs.Sets.{AreExact}
use Rattle.bp_calls.specs.Space.{HasRoomThawed}
use Rattle.pm_region.specs.Memory.{Memory, current_words}
use Rattle.bp_layout.specs.Thaw.{thawed}

-- The image is well formed, the sets are exact, and inode `i` is a file that is shorter than `size`, which is within
-- the limit of the image's version. No block is left to thaw. If enough blocks are free, the log has room for the
-- change.
pub record CanGrowFile (in_snapshot : ℕ → Bool) (memory : Memory) (blocks inodes : Set) (i size : ℕ) : Type 0 where
  pub well_formed : IsWellFormed (current_words memory)
  pub exact : AreExact (current_words memory) in_snapshot blocks inodes
  pub reached : IsReached (current_words memory) i
  pub file : IsFile (current_words memory) i
  pub longer : size_of (current_words memory) i < size
  pub fits : size ≤ greatest_size (version_of (current_words memory))
  pub clear : thawed (current_words memory) in_snapshot (resizes i size) ≡ []
  pub room : HasRoomThawed memory blocks (resizes i size)
