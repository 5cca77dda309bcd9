-- A volume that can carry out a call.
use Rattle.std.specs.Prelude.{◌≤◌}
use Rattle.bp_free.specs.declared.parts.Parts.{Parts}
use Rattle.bp_layout.specs.Trees.{AreInSnapshot}
use Rattle.bp_layout.specs.Whole.{IsFileSystem}
use Rattle.bp_limits.specs.Limits.{call_room}
use Rattle.bp_changes.specs.Sets.{IsExact, in_snapshot_of}
use Rattle.pm_region.specs.Memory.{Memory, current_words, room_in}

-- The words are a file system, the sets and counts of these parts are exactly those of the words, the blocks of the
-- snapshot are those of the snapshot, and the log has room for all events of a call.
pub record IsReady {R : Type 0} (memory : Memory) (parts : Parts R) : Type 0 where
  pub well_formed : IsFileSystem (current_words memory)
  pub exact : IsExact (current_words memory) parts
  pub snapshot_blocks : AreInSnapshot (current_words memory) (in_snapshot_of parts)
  pub room : call_room ≤ room_in memory
