-- The progress of a scan, as given by its sets: the inodes that are not entered, and the directories whose entries are
-- still to be read.
use Rattle.std.specs.Prelude.{◌≡◌, ◌≢◌, ◌⊎◌, ℕ, ◌<◌, ◌≤◌, true, false}
use Rattle.bp_free.specs.Set.{Set, has}
use Rattle.bp_layout.specs.Words.{Image}
use Rattle.bp_layout.specs.Inode.{IsDirectory, inode_count}
use Rattle.bp_layout.specs.Directory.{EntryNames}
use Rattle.bp_scan.specs.Scanned.{IsScanned, HasAllBlocks}

-- The tree was entered.
abbrev pub IsEntered : Image → Set → ℕ → Type 0
IsEntered image inodes t = (t < inode_count image) × (has inodes t ≡ false)

-- The entry was processed: its directory was entered and is not to be read any more, or it is the current directory
-- and the entry is in a slot before the current one.
abbrev pub IsDone : Image → Set → Set → ℕ → ℕ → ℕ → ℕ → Type 0
IsDone image inodes todo current slot i s = (IsEntered image inodes i × IsDirectory image i × (has todo i ≡ false)
    × (i ≢ current)) ⊎ ((i ≡ current) × (s < slot))

-- A processed entry refers to the inode.
pub record NamedBy (image : Image) (inodes todo : Set) (current slot j : ℕ) : Type 0 where
  pub directory : ℕ
  pub entry : ℕ
  pub done : IsDone image inodes todo current slot directory entry
  pub names : EntryNames image directory entry j

-- A scan in progress, from a given set of all blocks. The current directory is 0 between directories.
pub record IsUnderWay (image : Image) (all blocks inodes todo : Set) (current slot : ℕ) : Type 0 where
  pub scanned : IsScanned image (IsEntered image inodes) (IsDone image inodes todo current slot) all blocks
  pub todo_entered : (i : ℕ) → has todo i ≡ true → IsEntered image inodes i × IsDirectory image i
  -- A processed entry refers to each inode that was entered, except the inode file and the root directory.
  pub named : (j : ℕ) → 2 ≤ j → IsEntered image inodes j → NamedBy image inodes todo current slot j

-- A scan in progress, from the set of all blocks except the first.
pub record IsMidway (image : Image) (blocks inodes todo : Set) (current slot : ℕ) : Type 0 where
  pub all : Set
  pub whole : HasAllBlocks image all
  pub under_way : IsUnderWay image all blocks inodes todo current slot
