-- What any call does to a region: a call on files, and before an upgrade to version 3 some drains.
use Rattle.std.specs.Prelude.{◌≡◌, ◌⊎◌, ℕ, ◌+◌, min, Bool, true, false, List, [], ◌∷◌, ◌++◌, length, Result, Ok, Err}
use Rattle.pm_epochs.specs.declared.event.Event.{Event}
use Rattle.pm_epochs.specs.declared.event.Event.TheVariants.{CallEnd}
use Rattle.pm_epochs.specs.Log.{call_ends}
use Rattle.pm_region.specs.Memory.{Adds, Memory, drained, with_room}
use Rattle.pm_region.specs.Safe.{IsSafe}
use Rattle.bp_layout.specs.Formatted.{version_of}
use Rattle.bp_layout.specs.Inode.{AreClear, AreClearBelow, inode_count}
use Rattle.bp_layout.specs.Trees.{has_snapshot}
use Rattle.bp_layout.specs.Whole.{SameFiles}
use Rattle.bp_layout.specs.Words.{Image}
use Rattle.bp_limits.specs.CallLimits.{allows_attributes}
use Rattle.bp_limits.specs.Limits.{call_room}
use Rattle.bp_layout.specs.Clearing.{IsNextToClear, cleared_inodes}
use Rattle.bp_plain.specs.Calls.{Call, Answer}
use Rattle.bp_plain.specs.Calls.Call.{upgrade_to_three}
use Rattle.bp_plain.specs.declared.errors.FsError.{FsError}
use Rattle.bp_plain.specs.declared.errors.FsError.TheVariants.{HasSnap}
use Rattle.bp_roles.specs.Mounted.{SameDurable, served_words}
use Rattle.bp_fs.specs.FileCall.{FileCall}

-- The image can be upgraded to version 3: its version is an earlier one, and it has no snapshot.
pub record CanUpgrade (image : Image) : Type 0 where
  pub early : allows_attributes (version_of image) ≡ false
  pub single : has_snapshot image ≡ false

-- ---- words that an upgrade clears

-- One step: from inode `first` on, the words of at most `count` inodes that version 3 makes attributes are 0 now. The
-- files are the same. The log got the stores and then an end-of-call marker.
pub record ClearsSome (old : Memory) (first count : ℕ) (new : Memory) : Type 0 where
  pub added : List Event
  pub no_call_end : call_ends added ≡ 0
  pub adds : Adds (with_room call_room old) new (added ++ CallEnd ∷ [])
  pub files : SameFiles (served_words old) (served_words new)
  pub clear : AreClearBelow (served_words old) first →
      AreClearBelow (served_words new) (min (first + count) (inode_count (served_words new)))
  pub safe : IsSafe SameDurable new

-- Steps with a drain after each.
pub data ClearsInSteps (old : Memory) : Memory → Type 0 where
  none : ClearsInSteps old old
  more : {between new : Memory} {first : ℕ} → ClearsInSteps old between →
      ClearsSome between first cleared_inodes new → ClearsInSteps old (drained new)

-- The words that version 3 makes attributes are 0 now in all inodes, and the files are the same. All earlier calls are
-- durable.
pub record ClearsAll (old new : Memory) : Type 0 where
  pub can : CanUpgrade (served_words old)
  pub steps : ClearsInSteps old new
  pub files : SameFiles (served_words old) (served_words new)
  pub clear : AreClear (served_words new)
  pub durable : new.events ≡ []
  pub whole : length new.base ≡ length old.base
  pub capacity : new.capacity ≡ old.capacity
  pub through : new.through ≡ old.through
  pub safe : IsSafe SameDurable new

-- One step by itself, and its result. `true`: the step began at the first inode that was not clear. `false`: the version
-- is 3, or all words are 0 already.
abbrev pub ClearsStep : Memory → Result Bool FsError → Memory → Type 0
ClearsStep old (Ok true) new = CanUpgrade (served_words old)
    × (first : ℕ) × IsNextToClear (served_words old) 0 first × ClearsSome old first cleared_inodes new
ClearsStep old (Ok false) new = (new ≡ old) × ((allows_attributes (version_of (served_words old)) ≡ true)
    ⊎ (CanUpgrade (served_words old) × AreClear (served_words old)))
ClearsStep old (Err error) new = (new ≡ old) × (error ≡ HasSnap)
    × (allows_attributes (version_of (served_words old)) ≡ false) × (has_snapshot (served_words old) ≡ true)

-- ---- calls

-- A call on files. An upgrade to version 3 that is not refused clears words first, in as many drains as that takes, if
-- not all are clear.
pub data Called (old : Memory) (call : Call) (answer : Answer) (new : Memory) : Type 0 where
  at_once : FileCall old call answer new → Called old call answer new
  cleared : {between : Memory} → call ≡ upgrade_to_three → (AreClear (served_words old) → ⊥) → ClearsAll old between →
      FileCall between call answer new → Called old call answer new
