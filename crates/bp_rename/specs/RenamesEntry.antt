-- The effect of a rename on an image, by slots.
use Rattle.std.specs.Prelude.{◌≡◌, ◌≢◌, ℕ, None, Some, unwrap_or}
use Rattle.bp_changes.specs.Effects.{CarriesEntry, MovesEntry, RespellsEntry}
use Rattle.bp_layout.specs.Directory.{empty_slot, entry_count, name_at}
use Rattle.bp_layout.specs.Words.{Image}
use Rattle.bp_rename.specs.CanRename.{moved_inode}
use Rattle.bp_rename.specs.declared.moves.Move.{Move}

-- The slot that a new name of a directory gets: its least empty slot, or the one after its last entry if no entry is
-- empty.
abbrev pub new_slot : Image → ℕ → ℕ
new_slot image i = unwrap_or (empty_slot image i) (entry_count image i)

-- The entry in this slot of the new directory refers to the inode that moves, and the old entry is empty.
abbrev pub MovesOnto : Move → ℕ → Image → Image → Type 0
MovesOnto move slot old new = MovesEntry old new move.from_dir move.from_slot move.to_dir slot (moved_inode old move)

-- Onto an entry: that entry refers to the inode that moves, and the old entry is empty. Within its directory: the
-- entry has the new name. To another directory: an entry there has the new name and refers to the inode, and the old
-- entry is empty. All other entries keep their slots, their names and their inodes.
pub data RenamesEntry (move : Move) (old new : Image) : Type 0 where
  onto : (r : ℕ) → move.to_slot ≡ Some r → MovesOnto move r old new → RenamesEntry move old new
  within : move.to_slot ≡ None → move.from_dir ≡ move.to_dir →
      RespellsEntry old new move.from_dir move.from_slot (moved_inode old move) →
      name_at new move.from_dir move.from_slot ≡ move.name.now → RenamesEntry move old new
  across : move.to_slot ≡ None → move.from_dir ≢ move.to_dir →
      CarriesEntry old new move.from_dir move.from_slot move.to_dir (new_slot old move.to_dir) (moved_inode old move) →
      name_at new move.to_dir (new_slot old move.to_dir) ≡ move.name.now → RenamesEntry move old new
