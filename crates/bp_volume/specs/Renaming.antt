-- What the two paths of a rename find.
use Rattle.std.specs.Prelude.{◌≡◌, ◌≢◌, ◌==◌, ℕ, List, [], Bool, false, Option, None, Some, option_map}
use Rattle.bp_cache.specs.Changes.{NameMoves, NameReplaces}
use Rattle.bp_cache.specs.declared.name_at.NameAt.{NameAt}
use Rattle.bp_changes.specs.Effects.{CanUnlink}
use Rattle.bp_layout.specs.Directory.{empty_slot, ino_at, slot_named}
use Rattle.bp_layout.specs.Paths.{IsName, Name, Path, parse}
use Rattle.bp_layout.specs.Inode.{IsDirectory}
use Rattle.bp_layout.specs.Lookup.{lookup}
use Rattle.bp_layout.specs.Words.{Image}
use Rattle.bp_path.specs.declared.steps.FoundEntry.{FoundEntry}
use Rattle.bp_plain.specs.Calls.{Call}
use Rattle.bp_plain.specs.Calls.Call.{rename}
use Rattle.bp_plain.specs.Plain.{moves_below, parent_of, refusal}
use Rattle.bp_plain.specs.PlainTree.{FileTree}
use Rattle.bp_plain.specs.Stands.{Stands}
use Rattle.bp_rename.specs.RenamesEntry.{new_slot}
use Rattle.bp_rename.specs.declared.moves.Move.{Move}
use Rattle.bp_fs.specs.Step.{IsEntryOn, last_of}
use Rattle.bp_volume.specs.declared.rename.Ends.{Ends}
use Rattle.bp_volume.specs.declared.lookup.Target.{Target}

-- The path is this name in directory `i`, whether the directory has it or not.
pub record IsNameIn (image : Image) (path : Path) (i : ℕ) (name : Name) : Type 0 where
  pub below : path ≢ []
  pub parent : lookup image (parent_of path) ≡ Some i
  pub last : last_of path ≡ name

-- The path is the name of `target` in its directory, and `there` is the entry that has this name, if any. If none has
-- it, `empty` is the directory's least empty slot.
pub record IsTarget (image : Image) (path : Path) (target : Target) : Type 0 where
  pub below : path ≢ []
  pub parent : lookup image (parent_of path) ≡ Some target.dir
  pub directory : IsDirectory image target.dir
  pub last : last_of path ≡ target.name.now
  pub form : IsName target.name.now
  pub new : target.there ≡ None → slot_named image target.dir target.name.now ≡ None
  pub there : (entry : FoundEntry) → target.there ≡ Some entry
      → IsEntryOn image path target.dir entry.slot entry.ino
  pub empty : target.there ≡ None → target.empty ≡ empty_slot image target.dir

-- The first path finds an entry, by its name. The second is a name in a directory, and does not lie below the first.
pub record AreRenameEnds (image : Image) (p q : Path) (ends : Ends) : Type 0 where
  pub source : IsEntryOn image p ends.source.dir ends.source.slot ends.source.ino
  pub named : slot_named image ends.source.dir ends.source.name.now ≡ Some ends.source.slot
  pub target : IsTarget image q ends.target
  pub outside : moves_below p q ≡ false

-- The two texts spell paths that are the ends of this rename.
pub record FindsEnds (image : Image) (from to : List ℕ) (ends : Ends) : Type 0 where
  pub source_path : Path
  pub source_parsed : parse from ≡ Some source_path
  pub target_path : Path
  pub target_parsed : parse to ≡ Some target_path
  pub are : AreRenameEnds image source_path target_path ends

-- Whether there is an entry and it refers to inode `i`.
abbrev pub is_inode : ℕ → Option FoundEntry → Bool
is_inode i None = false
is_inode i (Some entry) = entry.ino == i

-- Whether both ends are one entry, or two entries that refer to one file.
abbrev pub are_same : Ends → Bool
are_same ends = is_inode ends.source.ino ends.target.there

-- No tree that the image represents refuses the call.
abbrev pub Allows : Image → Call → Type 0
Allows image call = (tree : FileTree) → Stands image tree → refusal tree call ≡ None

-- The entry that has the new name may be removed.
abbrev pub CanUnlinkThere : Image → Ends → FoundEntry → Type 0
CanUnlinkThere image ends entry =
    CanUnlink image ends.target.dir entry.slot (ino_at image ends.target.dir entry.slot)

-- The ends are entries of two different inodes, or the second name is new. The entry that has the new name may be
-- removed, and nothing refuses the rename.
pub record MayMove (image : Image) (from to : List ℕ) (ends : Ends) : Type 0 where
  pub found : FindsEnds image from to ends
  pub other : are_same ends ≡ false
  pub leaves : (entry : FoundEntry) → ends.target.there ≡ Some entry → CanUnlinkThere image ends entry
  pub allowed : Allows image (rename from to)

-- The move from the first end to the second.
pub record IsMoveOf (ends : Ends) (move : Move) : Type 0 where
  pub from_dir : move.from_dir ≡ ends.source.dir
  pub from_slot : move.from_slot ≡ ends.source.slot
  pub to_dir : move.to_dir ≡ ends.target.dir
  pub to_slot : move.to_slot ≡ option_map (λ entry. entry.slot) ends.target.there
  pub name : move.name.now ≡ ends.target.name.now

-- ---- the effect of a rename on names

-- The new name, in the slot that it gets. If an entry has this name, it is that entry's slot. Otherwise, within its
-- directory, it is the slot of the entry that moves; in another directory, the least empty slot, or the one after the
-- last entry.
pub record IsNewName (image : Image) (ends : Ends) (at : NameAt) : Type 0 where
  pub dir : at.dir ≡ ends.target.dir
  pub name : at.name.now ≡ ends.target.name.now
  pub there : (entry : FoundEntry) → ends.target.there ≡ Some entry → at.slot ≡ entry.slot
  pub within : ends.target.there ≡ None → ends.target.dir ≡ ends.source.dir → at.slot ≡ ends.source.slot
  pub across : ends.target.there ≡ None → ends.target.dir ≢ ends.source.dir → at.slot ≡ new_slot image ends.target.dir

-- The name moves from `from` to `to`: it replaces the entry that is there, if any.
abbrev pub MovesName : Image → Image → NameAt → NameAt → Option FoundEntry → Type 0
MovesName old new from to (Some entry) = NameReplaces old new from to
MovesName old new from to None = NameMoves old new from to
