-- The effect of a rename on the abstract tree, and the names that paths find that may move.
use Rattle.std.specs.Prelude.{◌≡◌, ◌≢◌, ℕ, [], ◌∷◌, ◌++◌, None, Some}
use Rattle.bp_calls.specs.Removed.{IsFoundAt}
use Rattle.bp_changes.specs.Effects.{CanUnlink}
use Rattle.bp_layout.specs.Paths.{rest_below, IsName, Name, Path}
use Rattle.bp_layout.specs.Directory.{ino_at, name_at, slot_named}
use Rattle.bp_layout.specs.Inode.{IsDirectory}
use Rattle.bp_layout.specs.Lookup.{lookup}
use Rattle.bp_layout.specs.Words.{Image}
use Rattle.bp_plain.specs.Plain.{with_moved}
use Rattle.bp_plain.specs.PlainTree.{PathMap}
use Rattle.bp_plain.specs.Stands.{Shows}
use Rattle.bp_rename.specs.CanRename.{moved_inode}
use Rattle.bp_rename.specs.declared.moves.Move.{Move}

-- For each two paths that find the two directories, of which the second is not below the name, the second image has
-- the name, with all below it, as the new name in the second directory.
abbrev pub MovesPath : Move → Image → Image → Type 0
MovesPath move old new = (map : PathMap) (from to : Path) → Shows old map →
    lookup old from ≡ Some move.from_dir → lookup old to ≡ Some move.to_dir →
    rest_below (from ++ name_at old move.from_dir move.from_slot ∷ []) to ≡ None →
    Shows new (with_moved map (from ++ name_at old move.from_dir move.from_slot ∷ []) (to ++ move.name.now ∷ []))

-- A path finds the new directory, and is not below the name's own path. If an entry has the new name there, it refers
-- to another inode, and may be removed.
pub record IsFoundTarget (image : Image) (source to : Path) (move : Move) : Type 0 where
  pub found : lookup image to ≡ Some move.to_dir
  pub directory : IsDirectory image move.to_dir
  pub outside : rest_below source to ≡ None
  pub name : IsName move.name.now
  pub slot : slot_named image move.to_dir move.name.now ≡ move.to_slot
  pub apart : (r : ℕ) → move.to_slot ≡ Some r → ino_at image move.to_dir r ≢ moved_inode image move
  pub leaves : (r : ℕ) → move.to_slot ≡ Some r → CanUnlink image move.to_dir r (ino_at image move.to_dir r)

-- A path finds the entry that moves, by its name, and another path finds the new directory.
pub record IsFoundMove (image : Image) (move : Move) : Type 0 where
  pub from : Path
  pub to : Path
  pub name : Name
  pub inode : ℕ
  pub source : IsFoundAt image from name move.from_dir move.from_slot inode
  pub target : IsFoundTarget image (from ++ name ∷ []) to move
