-- The number of links of an inode: the entries of reachable directories that name it.
use Rattle.std.specs.Prelude.{◌≡◌, ℕ, ◌<◌, List, length, slice_index}
use Rattle.bp_layout.specs.Words.{Image}
use Rattle.bp_layout.specs.Directory.{EntryNames}
use Rattle.bp_layout.specs.Members.{AreApart, Each, Has}
use Rattle.bp_layout.specs.Reached.{IsReached}

-- the entry, given by its directory and its slot, is in a reachable directory and names inode j
pub record IsNamed (image : Image) (j : ℕ) (entry : ℕ × ℕ) : Type 0 where
  pub reached : IsReached image entry.0
  pub names : EntryNames image entry.0 entry.1 j

-- the list has exactly the entries that name inode j, each once
pub record AreNamed (image : Image) (j : ℕ) (entries : List (ℕ × ℕ)) : Type 0 where
  pub once : AreApart entries
  pub name : Each (IsNamed image j) entries
  pub all : (i s : ℕ) → IsNamed image j (i, s) → Has entries (i, s)

pub record HasNames (image : Image) (j count : ℕ) : Type 0 where
  pub entries : List (ℕ × ℕ)
  pub are : AreNamed image j entries
  pub number : length entries ≡ count

-- the list has the number of links of each inode whose number is below its length
pub record AreCounts (image : Image) (counts : List ℕ) : Type 0 where
  pub each : (j : ℕ) → j < length counts → HasNames image j (slice_index counts j)
