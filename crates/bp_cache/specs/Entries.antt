-- The entry found in one slot, and when two entries are the same to an index.
use Rattle.std.specs.Prelude.{◌≡◌, ◌≢◌, ℕ, ◌/◌, ◌<◌, true, false}
use Rattle.bp_read.specs.declared.spot.Found.{Found}
use Rattle.bp_layout.specs.Directory.{ino_in, name_in, is_named_in}
use Rattle.bp_layout.specs.Paths.{Name}
use Rattle.bp_layout.specs.Words.{Image}
use Rattle.bp_limits.specs.Limits.{entry_size}

-- The entry in this slot has this name, and was found by it.
pub record IsEntryAt (image : Image) (root size : ℕ) (name : Name) (slot : ℕ) (found : Found) : Type 0 where
  pub slot_is : found.slot ≡ slot
  pub live : slot < size / entry_size
  pub named : is_named_in image root name slot ≡ true
  pub ino : found.ino ≡ ino_in image root slot

-- No entry in this slot has this name.
abbrev pub IsNotAt : Image → ℕ → ℕ → Name → ℕ → Type 0
IsNotAt image root size name slot = slot < size / entry_size → is_named_in image root name slot ≡ false

-- The entry in this slot is not empty and has this name.
pub record HasName (image : Image) (root slot : ℕ) (name : Name) : Type 0 where
  pub live : ino_in image root slot ≢ 0
  pub spelled : name_in image root slot ≡ name

-- The entry in this slot is empty as before, or has the same name as before. It may refer to another inode.
pub record KeepsName (old : Image) (old_root : ℕ) (new : Image) (new_root slot : ℕ) : Type 0 where
  pub live : ino_in new new_root slot ≢ 0 → ino_in old old_root slot ≢ 0
  pub empty : ino_in new new_root slot ≡ 0 → ino_in old old_root slot ≡ 0
  pub name : ino_in new new_root slot ≢ 0 → name_in new new_root slot ≡ name_in old old_root slot

-- Each entry of the later tree, except the touched ones, is an entry of the earlier tree and keeps its name.
pub record KeepsNames (old : Image) (old_root old_size : ℕ) (new : Image) (new_root new_size : ℕ) (IsTouched : ℕ → Type 0) : Type 0 where
  pub live : (slot : ℕ) → slot < new_size / entry_size → (IsTouched slot → ⊥) → slot < old_size / entry_size
  pub keeps : (slot : ℕ) → slot < new_size / entry_size → (IsTouched slot → ⊥) → KeepsName old old_root new new_root slot
