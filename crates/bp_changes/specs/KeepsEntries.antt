-- The entries of directories that a change keeps, stated from the second image to the first: what holds of each entry
-- of the first also holds of each entry of the second, except those that the change touches.
use Rattle.std.specs.Prelude.{◌≡◌, ◌≢◌, ◌⊎◌, ℕ, ◌<◌}
use Rattle.bp_layout.specs.Directory.{entry_count, ino_at, name_at}
use Rattle.bp_layout.specs.Inode.{IsDirectory}
use Rattle.bp_layout.specs.Reached.{IsReached}
use Rattle.bp_layout.specs.Words.{Image}

-- The entry at this slot of directory i has the same inode number and, if it names an inode, the same name.
pub record IsSameEntry (old new : Image) (i slot : ℕ) : Type 0 where
  pub ino : ino_at new i slot ≡ ino_at old i slot
  pub name : ino_at new i slot ≢ 0 → name_at new i slot ≡ name_at old i slot

-- the entry is unchanged, and was in a reachable directory of the first image
pub record WasEntry (old new : Image) (i slot : ℕ) : Type 0 where
  pub reached : IsReached old i
  pub directory : IsDirectory old i
  pub in_size : slot < entry_count old i
  pub same : IsSameEntry old new i slot

-- Each entry of a reachable directory of the second image, except touched ones, was an entry of the first.
abbrev pub KeepsEntries : Image → Image → (ℕ → ℕ → Type 0) → Type 0
KeepsEntries old new IsTouched = (i slot : ℕ) → IsReached new i → IsDirectory new i → slot < entry_count new i →
    (IsTouched i slot → ⊥) → WasEntry old new i slot

-- ---- the touched entries: slots in directories

abbrev pub NoSlot : ℕ → ℕ → Type 0
NoSlot i slot = ⊥

-- this slot of this directory
abbrev pub OneSlot : ℕ → ℕ → ℕ → ℕ → Type 0
OneSlot directory touched i slot = (i ≡ directory) × (slot ≡ touched)

-- this slot and another one, in the same or another directory
abbrev pub TwoSlots : ℕ → ℕ → ℕ → ℕ → ℕ → ℕ → Type 0
TwoSlots directory touched other also i slot = OneSlot directory touched i slot ⊎ OneSlot other also i slot
