-- What a volume is.
use Rattle.std.specs.Prelude.{◌≡◌, ◌≤◌, ℕ, ◌*◌}
use Rattle.bp_cache.specs.Cache.{IsCacheOf}
use Rattle.bp_cache.specs.declared.cache.DirectoryCache.{DirectoryCache}
use Rattle.pm_region.specs.Memory.{Memory, current_words}
use Rattle.pm_region.specs.Safe.{IsSafe}
use Rattle.bp_changes.specs.Sets.{IsExact, in_snapshot_of}
use Rattle.bp_free.specs.declared.parts.Parts.{Parts}
use Rattle.bp_layout.specs.Trees.{AreInSnapshot}
use Rattle.bp_layout.specs.Whole.{IsFileSystem, SameFiles}
use Rattle.bp_layout.specs.Words.{block_count}
use Rattle.bp_limits.specs.Limits.{block_inodes, call_room}
use Rattle.bp_roles.specs.Mounted.{KeepsRoles}
use Rattle.bp_roles.specs.Seen.{MemoryByRoles, seen}

-- A volume, as its calls see its memory. A crash at any point leaves a file system with the files and directories of
-- some prefix of the calls. The log can hold the events of any call, and the words are a file system. The sets hold
-- exactly its free blocks, its free inodes and the blocks of its snapshot, the counts are those of its links, and a scan
-- has the memory that it needs.
pub record IsVolume {R : Type 0} (memory : Memory) (parts : Parts R) (pending : ℕ) : Type 0 where
  pub safe : IsSafe SameFiles memory
  pub roomy : call_room ≤ memory.capacity
  pub well_formed : IsFileSystem (current_words memory)
  pub snapshot_blocks : AreInSnapshot (current_words memory) (in_snapshot_of parts)
  pub exact : IsExact (current_words memory) parts
  pub scans : pending ≡ block_inodes * block_count (current_words memory)

-- A volume over a region that is seen by the roles which a mount would take, with its cache of directories, which is
-- correct for the words as they are seen.
pub record IsCachedVolume (parts : Parts MemoryByRoles) (pending : ℕ) (cache : DirectoryCache) : Type 0 where
  pub roles : KeepsRoles parts.region
  pub volume : IsVolume (seen parts.region) parts pending
  pub right : IsCacheOf (current_words (seen parts.region)) cache
