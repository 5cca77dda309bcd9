-- The number of processed entries that refer to each inode.
use Rattle.std.specs.Prelude.{◌≡◌, ℕ, ◌<◌, List, length, slice_index}
use Rattle.bp_layout.specs.Words.{Image}
use Rattle.bp_layout.specs.Directory.{EntryNames}
use Rattle.bp_layout.specs.Members.{AreApart, Each, Has}

-- An entry, given as directory and slot, is one of those of `D` and refers to inode `j`.
pub record IsAmong (image : Image) (D : ℕ → ℕ → Type 0) (j : ℕ) (entry : ℕ × ℕ) : Type 0 where
  pub done : D entry.0 entry.1
  pub names : EntryNames image entry.0 entry.1 j

-- `count` is the number of entries of `D` that refer to inode `j`.
pub record HasAmong (image : Image) (D : ℕ → ℕ → Type 0) (j count : ℕ) : Type 0 where
  pub entries : List (ℕ × ℕ)
  pub once : AreApart entries
  pub name : Each (IsAmong image D j) entries
  pub all : (i s : ℕ) → IsAmong image D j (i, s) → Has entries (i, s)
  pub number : length entries ≡ count

-- The list has this number for each inode below its length.
pub record CountsAmong (image : Image) (D : ℕ → ℕ → Type 0) (counts : List ℕ) : Type 0 where
  pub each : (j : ℕ) → j < length counts → HasAmong image D j (slice_index counts j)
