-- The words of entries of a reachable directory.
use Rattle.std.specs.Prelude.{◌≡◌, ◌+◌, ◌<◌, ◌≤◌, ℕ, List, [], ◌++◌}
use Rattle.std.specs.List.{cons_option, filter_map, range_with_len}
use Rattle.bp_calls.specs.Asked.{entry_seen}
use Rattle.bp_layout.specs.EntryWords.{HasWords, IsRow}
use Rattle.bp_layout.specs.Words.{Image}
use Rattle.bp_layout.specs.Directory.{entry_count}
use Rattle.bp_layout.specs.Paths.{Name}
use Rattle.bp_layout.specs.Inode.{IsDirectory, root_of}
use Rattle.bp_layout.specs.Reached.{IsReached}
use Rattle.bp_layout.specs.declared.fields.Kind.{Kind}

-- The words are those of one entry of a reachable directory.
pub record IsEntryRow (image : Image) (words : List ℕ) : Type 0 where
  pub directory : ℕ
  pub slot : ℕ
  pub reached : IsReached image directory
  pub kind : IsDirectory image directory
  pub live : slot < entry_count image directory
  pub has : HasWords image (root_of image directory) slot words

-- The words are those of some consecutive entries of a reachable directory.
pub record AreEntries (image : Image) (words : List ℕ) : Type 0 where
  pub directory : ℕ
  pub first : ℕ
  pub count : ℕ
  pub reached : IsReached image directory
  pub kind : IsDirectory image directory
  pub live : first + count ≤ entry_count image directory
  pub row : IsRow image (root_of image directory) first count words

-- ---- what the entries add to a listing, whichever directory has them

-- The listing gains the kind and the name of the entry at its end, unless the entry is empty.
abbrev pub AddsEntry : Image → List ℕ → List (Kind × Name) → List (Kind × Name) → Type 0
AddsEntry image words old new = (i slot : ℕ) → HasWords image (root_of image i) slot words
    → new ≡ old ++ cons_option (entry_seen image i slot) []

-- The listing gains the kinds and the names of the entries in the row at its end, without the empty ones.
abbrev pub AddsEntries : Image → List ℕ → List (Kind × Name) → List (Kind × Name) → Type 0
AddsEntries image words old new = (i first count : ℕ) → IsRow image (root_of image i) first count words
    → new ≡ old ++ filter_map (entry_seen image i) (range_with_len first count)
