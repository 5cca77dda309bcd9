-- What C gets to know of a mounted volume.
use Rattle.std.specs.Prelude.{◌≡◌, ◌^◌, ◌-◌, min}
use Rattle.pm_region.specs.Memory.{Memory, room_in}
use Rattle.bp_layout.specs.Formatted.{version_of}
use Rattle.bp_layout.specs.Trees.{has_snapshot}
use Rattle.bp_layout.specs.Words.{block_count}
use Rattle.bp_plain.specs.TreeCode.{version_number}
use Rattle.bp_roles.specs.Mounted.{served_words}
use Rattle.bpfs_c.specs.declared.info.About.{About}

-- The version, the number of blocks, whether there is a snapshot, and how many events the log can hold (at most
-- 2^64 - 1) and still has room for.
pub record HasInfo (volume : Memory) (about : About) : Type 0 where
  pub version : about.version ≡ version_number (version_of (served_words volume))
  pub blocks : about.blocks ≡ block_count (served_words volume)
  pub snapshot : about.has_snapshot ≡ has_snapshot (served_words volume)
  pub capacity : about.capacity ≡ min volume.capacity (2 ^ 64 - 1)
  pub room : about.room ≡ room_in volume
