-- The effect of an upgrade to version 3, which may take several calls.
use Rattle.std.specs.Prelude.{◌≡◌, ◌≤◌, ℕ, Option, Some}
use Rattle.bp_layout.specs.Clearing.{IsNextToClear, cleared_inodes}
use Rattle.bp_limits.specs.Limits.{call_room}
use Rattle.bp_plain.specs.Calls.{Answer}
use Rattle.bp_plain.specs.Calls.Call.{upgrade_to_three}
use Rattle.bp_roles.specs.Mounted.{served_words}
use Rattle.bp_fs.specs.Called.{CanUpgrade, ClearsSome}
use Rattle.bp_fs.specs.FileCall.{FileCall}
use Rattle.bpfs_c.specs.Codes.{IsEndedBy}
use Rattle.bpfs_c.specs.declared.mounted.Mounted.{Mounted}
use Rattle.pm_region.specs.Memory.{Memory, room_in}

-- The image can be upgraded, and words of inodes were set that version 3 makes attributes. From the first such inode on,
-- those of at most 65,536 inodes are 0 now.
pub record Clears (old new : Memory) : Type 0 where
  pub can : CanUpgrade (served_words old)
  pub first : ℕ
  pub next : IsNextToClear (served_words old) 0 first
  pub clears : ClearsSome old first cleared_inodes new

-- The call upgrade was made, and the number says how it ended.
pub record Upgrades (old : Memory) (code : ℕ) (new : Memory) : Type 0 where
  pub answer : Answer
  pub is_call : FileCall old upgrade_to_three answer new
  pub reported : IsEndedBy answer code

-- If the number is 39, words were set to 0, and the call is to be made again; else it was made.
pub data ClearsOrUpgrades (old : Memory) (code : ℕ) (new : Memory) : Type 0 where
  again : code ≡ 39 → Clears old new → ClearsOrUpgrades old code new
  ended : Upgrades old code new → ClearsOrUpgrades old code new

-- In the volume of the handle, whose log had room for a call, words were set to 0. The handle keeps its listing.
pub record ClearsHeld (old new : Option Mounted) : Type 0 where
  pub mounted : Mounted
  pub before : old ≡ Some mounted
  pub room : call_room ≤ room_in mounted.volume
  pub volume : Memory
  pub clears : Clears mounted.volume volume
  pub after : new ≡ Some (record mounted { volume = volume })
