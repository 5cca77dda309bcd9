-- The entries of a directory in the order of their names.
use Rattle.std.specs.Prelude.{◌≡◌, ℕ, ◌==◌, List, [], ◌++◌, All, Bool, map, Option, None, Some, Result, OnOk, if◌then◌else◌}
use Rattle.std.specs.Cmp.Lexicographic.{slice_cmp}
use Rattle.std.specs.List.{cons_option, filter_map, range_with_len}
use Rattle.std.specs.Ordering.{is_lt, nat_cmp}
use Rattle.bp_layout.specs.EntryWords.{HasWords, IsRow}
use Rattle.bp_layout.specs.Directory.{ino_at, lookup_in, name_at}
use Rattle.bp_layout.specs.Paths.{Name, Path}
use Rattle.bp_layout.specs.Inode.{root_of}
use Rattle.bp_layout.specs.Lookup.{lookup}
use Rattle.bp_layout.specs.Words.{Image}
use Rattle.bp_plain.specs.Plain.{listing}
use Rattle.bp_plain.specs.PlainTree.{PathMap}
use Rattle.bp_plain.specs.Stands.{Shows}

-- The inode and the name of an entry of directory i, if it is not empty.
abbrev pub entry_named : Image → ℕ → ℕ → Option (ℕ × Name)
entry_named image i slot =
    if ino_at image i slot == 0 then None else Some (ino_at image i slot, name_at image i slot)

-- The inodes and names of those of `count` entries, from slot `first` on, that are not empty.
abbrev pub entries_named : Image → ℕ → ℕ → ℕ → List (ℕ × Name)
entries_named image i first count = filter_map (entry_named image i) (range_with_len first count)

-- The entry that these words are, in whichever directory, was appended to the list, if it is not empty.
abbrev pub PutsEntry : {T E : Type 0} → List ℕ → Result T E → List (ℕ × Name) → List (ℕ × Name) → Type 0
PutsEntry words result old new = (image : Image) (i slot : ℕ) → HasWords image (root_of image i) slot words
    → OnOk result (new ≡ old ++ cons_option (entry_named image i slot) [])

-- Those of the consecutive entries that these words are, in whichever directory, that are not empty were appended to
-- the list.
abbrev pub PutsRow : {T E : Type 0} → List ℕ → Result T E → List (ℕ × Name) → List (ℕ × Name) → Type 0
PutsRow words result old new = (image : Image) (i first count : ℕ) → IsRow image (root_of image i) first count words
    → OnOk result (new ≡ old ++ entries_named image i first count)

-- The name of one entry comes before that of the other, in the order of bytes.
abbrev pub entry_comes_before : ℕ × Name → ℕ × Name → Bool
entry_comes_before one other = is_lt (slice_cmp nat_cmp one.1 other.1)

-- Names, each with the inode to which directory i refers by it: exactly those that an abstract tree lists at the
-- directory's path, in the same order.
pub record AreEntries (image : Image) (i : ℕ) (entries : List (ℕ × Name)) : Type 0 where
  pub names : (tree : PathMap) (path : Path) → Shows image tree → lookup image path ≡ Some i
      → map (λ entry. entry.1) entries ≡ map (λ entry. entry.1) (listing tree.nodes path)
  pub found : All (λ entry. lookup_in image i entry.1 ≡ Some entry.0) entries
