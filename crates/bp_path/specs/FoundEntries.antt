-- The result of a walk.
use Rattle.std.specs.Prelude.{◌≡◌, ℕ, [], ◌∷◌, ◌++◌, IfOk, Some, Result, Ok, Err}
use Rattle.bp_layout.specs.Words.{Image}
use Rattle.bp_layout.specs.Directory.{slot_named}
use Rattle.bp_layout.specs.Paths.{Name, Path}
use Rattle.bp_layout.specs.Lookup.{lookup}
use Rattle.bp_limits.specs.Limits.{root_ino}
use Rattle.bp_path.specs.Walk.{Walked, in_directory, walk_from}
use Rattle.bp_path.specs.Walk.Walked.{found, missing, in_file}
use Rattle.bp_path.specs.declared.steps.FoundEntry.{FoundEntry}
use Rattle.bp_path.specs.declared.steps.WalkFault.{WalkFault}
use Rattle.bp_path.specs.declared.steps.WalkFault.TheVariants.{NotFound, NotDir}

abbrev pub fault_of : WalkFault → Walked
fault_of NotFound = missing
fault_of NotDir = in_file

-- A walk from this inode on fails at the name with this fault, whatever names follow.
abbrev pub FailsAt : Image → ℕ → Name → WalkFault → Type 0
FailsAt image dir name fault = (rest : Path) → walk_from image dir (name ∷ rest) ≡ fault_of fault

-- The inode at which a walk ended, or its fault. `dir_of`: the same for a walk to a parent directory.
abbrev pub walked_of : Result FoundEntry WalkFault → Walked
walked_of (Ok entry) = found entry.ino
walked_of (Err fault) = fault_of fault

abbrev pub dir_of : Result ℕ WalkFault → Walked
dir_of (Ok dir) = found dir
dir_of (Err fault) = fault_of fault

-- The entry by which a path finds its inode: the directory and the slot, both 0 for `/`.
pub record IsEntryOf (image : Image) (path : Path) (entry : FoundEntry) : Type 0 where
  pub top : path ≡ [] → (entry.dir ≡ 0) × (entry.slot ≡ 0)
  pub below : (parent : Path) (name : Name) → path ≡ parent ++ name ∷ [] → (lookup image parent ≡ Some entry.dir)
      × (slot_named image entry.dir name ≡ Some entry.slot)

-- A walk to the parent directory ends where a walk along all names except the last does, if that is a directory.
abbrev pub WalksToParent : Image → Path → Result ℕ WalkFault → Type 0
WalksToParent image path result = (parent : Path) (name : Name) → path ≡ parent ++ name ∷ [] →
    dir_of result ≡ in_directory image (walk_from image root_ino parent)

-- A walk to the parent directory finds the directory to which all names except the last lead.
abbrev pub FindsParent : Image → Path → Result ℕ WalkFault → Type 0
FindsParent image path result = (parent : Path) (name : Name) → path ≡ parent ++ name ∷ [] →
    IfOk result (λ dir. lookup image parent ≡ Some dir)
