-- The effect of changes of an image on the names in directories, as far as a cache of them depends on it.
use Rattle.std.specs.Prelude.{◌≡◌, ◌≢◌, ℕ, ◌<◌}
use Rattle.bp_cache.specs.declared.name_at.NameAt.{NameAt}
use Rattle.bp_changes.specs.KeepsEntries.{NoSlot, OneSlot, TwoSlots}
use Rattle.bp_changes.specs.KeepsSlots.{KeepsSlots, KeepsOther, KeepsOthers}
use Rattle.bp_cache.specs.Entries.{HasName, KeepsName}
use Rattle.bp_layout.specs.Directory.{entry_count, ino_at}
use Rattle.bp_layout.specs.Hints.{NameIn}
use Rattle.bp_layout.specs.Inode.{IsDirectory, root_of}
use Rattle.bp_layout.specs.Reached.{IsReached}
use Rattle.bp_layout.specs.Words.{Image}

-- ---- entries

-- Directory `i` was reachable in the first image and had this slot, and the entry there has kept its name, or is empty
-- as before.
pub record WasNamed (old new : Image) (i slot : ℕ) : Type 0 where
  pub reached : IsReached old i
  pub directory : IsDirectory old i
  pub in_size : slot < entry_count old i
  pub keeps : KeepsName old (root_of old i) new (root_of new i) slot

-- Each entry of a directory that is reachable in the second image has kept its name or is empty as before, except the
-- touched ones.
abbrev pub KeepsNamed : Image → Image → (ℕ → ℕ → Type 0) → Type 0
KeepsNamed old new IsTouched = (i slot : ℕ) → IsReached new i → IsDirectory new i → slot < entry_count new i →
    (IsTouched i slot → ⊥) → WasNamed old new i slot

-- The directory is reachable, and its entry in the slot has the name.
pub record NameStands (image : Image) (at : NameAt) : Type 0 where
  pub reached : IsReached image at.dir
  pub directory : IsDirectory image at.dir
  pub in_size : at.slot < entry_count image at.dir
  pub named : HasName image (root_of image at.dir) at.slot at.name.now

-- The name, with its directory.
abbrev pub name_in_directory : NameAt → NameIn
name_in_directory at = (at.dir, at.name.now)

-- ---- changes

-- No name is added, removed or moved to another slot.
pub record KeepsAllNames (old new : Image) : Type 0 where
  pub entries : KeepsNamed old new NoSlot
  pub slots : KeepsSlots old new

-- The name is added, in its slot.
pub record NameEnters (old new : Image) (at : NameAt) : Type 0 where
  pub entries : KeepsNamed old new (OneSlot at.dir at.slot)
  pub stands : NameStands new at
  pub slots : KeepsSlots old new

-- The name is removed from its slot, which is empty then.
pub record NameLeaves (old new : Image) (at : NameAt) : Type 0 where
  pub entries : KeepsNamed old new (OneSlot at.dir at.slot)
  pub stood : NameStands old at
  pub empty : ino_at new at.dir at.slot ≡ 0
  pub slots : KeepsOther old new (name_in_directory at)

-- The name `from` is removed from its slot, which is empty then. The name `to` keeps its slot, and its entry may refer
-- to another inode now.
pub record NameReplaces (old new : Image) (from to : NameAt) : Type 0 where
  pub entries : KeepsNamed old new (OneSlot from.dir from.slot)
  pub stood : NameStands old from
  pub empty : ino_at new from.dir from.slot ≡ 0
  pub slots : KeepsOthers old new (name_in_directory from) (name_in_directory to)

-- The name `from` is removed from its slot, and the name `to` is added in its own: in another directory, or as the new
-- name of the same entry.
pub record NameMoves (old new : Image) (from to : NameAt) : Type 0 where
  pub entries : KeepsNamed old new (TwoSlots from.dir from.slot to.dir to.slot)
  pub stood : NameStands old from
  pub stands : NameStands new to
  pub here : from.dir ≡ to.dir → from.slot ≡ to.slot
  pub empty : from.dir ≢ to.dir → ino_at new from.dir from.slot ≡ 0
  pub slots : KeepsOthers old new (name_in_directory from) (name_in_directory to)
