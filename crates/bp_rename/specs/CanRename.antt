-- Preconditions of a rename, and the change that it is.
use Rattle.std.specs.Prelude.{◌≡◌, ◌≢◌, ℕ, ◌==◌, length, Option, None, Some, if◌then◌else◌}
use Rattle.bp_changes.specs.Effects.{IsAtOrBelow}
use Rattle.bp_layout.specs.Directory.{EntryNames, empty_slot, ino_at, slot_named}
use Rattle.bp_layout.specs.Paths.{IsName}
use Rattle.bp_layout.specs.Inode.{IsDirectory}
use Rattle.bp_layout.specs.Need.{Change}
use Rattle.bp_layout.specs.Need.Change.{moves, replaces, respells}
use Rattle.bp_layout.specs.Reached.{IsReached}
use Rattle.bp_layout.specs.WellFormed.{IsWellFormed}
use Rattle.bp_layout.specs.Words.{Image}
use Rattle.bp_rename.specs.declared.moves.Move.{Move}

-- The inode that moves.
abbrev pub moved_inode : Image → Move → ℕ
moved_inode image move = ino_at image move.from_dir move.from_slot

-- The image is well formed. The entry refers to an inode, and the new directory is neither that inode nor below it, so
-- no inode becomes unreachable. If an entry has the new name, it refers to another inode, which is a file or an empty
-- directory.
pub record CanRename (image : Image) (move : Move) : Type 0 where
  pub well_formed : IsWellFormed image
  pub source : IsReached image move.from_dir
  pub entry : EntryNames image move.from_dir move.from_slot (ino_at image move.from_dir move.from_slot)
  pub target : IsReached image move.to_dir
  pub directory : IsDirectory image move.to_dir
  pub outside : IsAtOrBelow image (ino_at image move.from_dir move.from_slot) move.to_dir → ⊥
  pub name : IsName move.name.now
  pub slot : slot_named image move.to_dir move.name.now ≡ move.to_slot
  pub apart : (r : ℕ) → move.to_slot ≡ Some r →
      ino_at image move.to_dir r ≢ ino_at image move.from_dir move.from_slot
  pub alone : (r x l : ℕ) → move.to_slot ≡ Some r → EntryNames image (ino_at image move.to_dir r) x l → ⊥

-- The change of a move: onto the entry that has the new name, if any; else within the directory, or to another
-- directory.
abbrev pub change_to : ℕ → ℕ → ℕ → ℕ → Option ℕ → Change
change_to i s j len (Some r) = replaces i s j r
change_to i s j len None = if i == j then respells i s len else moves i s j

abbrev pub change_of : Move → Change
change_of move = change_to move.from_dir move.from_slot move.to_dir (length move.name.now) move.to_slot

-- The change of a move onto the entry in this slot of the new directory.
abbrev pub change_onto : Move → ℕ → Change
change_onto move slot = replaces move.from_dir move.from_slot move.to_dir slot

abbrev pub change_across : Move → Change
change_across move = moves move.from_dir move.from_slot move.to_dir

-- If the name moves to another directory and is new there, `slot` is the least empty slot of that directory.
abbrev pub IsSlotAcross : Image → Move → Option ℕ → Type 0
IsSlotAcross image move slot = move.to_slot ≡ None → move.from_dir ≢ move.to_dir →
    slot ≡ empty_slot image move.to_dir
