-- Preconditions for a call that removes a name from a directory.
use Rattle.std.specs.Prelude.{◌≡◌, ℕ, [], ◌∷◌, ◌++◌, Some}
use Rattle.bp_read.specs.Names.{name_count}
use Rattle.bp_layout.specs.Directory.{slot_named}
use Rattle.bp_layout.specs.Paths.{Name, Path}
use Rattle.bp_layout.specs.Inode.{root_of, size_of}
use Rattle.bp_layout.specs.Lookup.{lookup}
use Rattle.bp_layout.specs.Words.{Image}

-- The path of this name in its parent directory finds inode `j`: the directory is `i`, and the name is in slot `s`.
pub record IsFoundAt (image : Image) (parent : Path) (name : Name) (i s j : ℕ) : Type 0 where
  pub directory : lookup image parent ≡ Some i
  pub slot : slot_named image i name ≡ Some s
  pub inode : lookup image (parent ++ name ∷ []) ≡ Some j

-- Directory `j` is empty: no entry of it refers to an inode.
abbrev pub HasNoName : Image → ℕ → Type 0
HasNoName image j = name_count image (root_of image j) (size_of image j) ≡ 0
