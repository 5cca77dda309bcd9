-- Directories with a path below them that is too long.
use Rattle.std.specs.Prelude.{◌≡◌, ◌≢◌, ◌↔◌, ℕ, ◌+◌, ◌<◌, ◌≤◌, List, ◌∷◌, length, Bool, IsTrue, Some}
use Rattle.bp_layout.specs.EntryWords.{HasWords, IsRow}
use Rattle.bp_layout.specs.Directory.{ino_at, name_at}
use Rattle.bp_layout.specs.Inode.{root_of}
use Rattle.bp_layout.specs.Lookup.{lookup_from}
use Rattle.bp_layout.specs.Paths.{Path}
use Rattle.bp_layout.specs.Words.{Image}
use Rattle.bp_plain.specs.Export.{path_text}

-- A path that exists, from inode i on, has more bytes than are left for it.
pub record HasLongPath (image : Image) (i left : ℕ) : Type 0 where
  pub path : Path
  pub found : ℕ
  pub finds : lookup_from image i path ≡ Some found
  pub long : left < length (path_text path)

-- A path that is too long begins with the entry in a slot of directory i.
pub record IsLongEntry (image : Image) (i slot left : ℕ) : Type 0 where
  pub some : ino_at image i slot ≢ 0
  pub path : Path
  pub found : ℕ
  pub finds : lookup_from image (ino_at image i slot) path ≡ Some found
  pub long : left < length (path_text (name_at image i slot ∷ path))

-- A path that is too long begins with one of `count` entries of directory i, from slot `first` on.
pub record HasLongEntry (image : Image) (i first count left : ℕ) : Type 0 where
  pub slot : ℕ
  pub low : first ≤ slot
  pub high : slot < first + count
  pub is : IsLongEntry image i slot left

-- ---- entries as their words

-- Whether a path that is too long begins with the entry that these words are, in whichever directory they are an
-- entry.
abbrev pub ReportsLongEntry : Image → List ℕ → ℕ → Bool → Type 0
ReportsLongEntry image words left long =
    (i slot : ℕ) → HasWords image (root_of image i) slot words → (IsTrue long ↔ IsLongEntry image i slot left)

-- Whether a path that is too long begins with one of the consecutive entries that these words are, in whichever
-- directory.
abbrev pub ReportsLongRow : Image → List ℕ → ℕ → Bool → Type 0
ReportsLongRow image words left long =
    (i first count : ℕ) → IsRow image (root_of image i) first count words
    → (IsTrue long ↔ HasLongEntry image i first count left)
