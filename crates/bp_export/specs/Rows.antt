-- Consecutive entries of a directory, as their words.
use Rattle.std.specs.Prelude.{◌≡◌, ◌≢◌, ℕ, ◌+◌, ◌-◌, ◌*◌, ◌/◌, ◌^◌, ◌<◌, ◌≤◌, min, List, length, slice_index, slice_range}
use Rattle.bp_layout.specs.EntryWords.{IsRow}
use Rattle.bp_limits.specs.Limits.{block_entries, entry_size, entry_words}
use Rattle.bp_limits.specs.CallLimits.{max_name}
use Rattle.bp_layout.specs.Directory.{ino_in}
use Rattle.bp_layout.specs.Reached.{IsReached}
use Rattle.bp_layout.specs.Words.{Image}

-- The number of entries of a leaf that are below the size.
abbrev pub row_length : ℕ → ℕ → ℕ
row_length size leaf = min block_entries (size / entry_size - block_entries * leaf)

-- The words of the entries of a leaf that are below the size.
abbrev pub IsLeafRow : Image → ℕ → ℕ → ℕ → List ℕ → Type 0
IsLeafRow image root size leaf words = IsRow image root (block_entries * leaf) (row_length size leaf) words

-- Each entry of a leaf is empty.
abbrev pub IsEmptyLeaf : Image → ℕ → ℕ → Type 0
IsEmptyLeaf image root leaf = (slot : ℕ) → block_entries * leaf ≤ slot → slot < block_entries * (leaf + 1)
    → ino_in image root slot ≡ 0

-- The entry is empty, or has an inode number of 32 bits and a name of at most `max_name` bytes.
pub record HasEntryForm (words : List ℕ) : Type 0 where
  pub few : slice_index words 0 < 2 ^ 32
  pub short : slice_index words 0 ≢ 0 → slice_index words 1 ≤ max_name

-- The entry is empty, or refers to a reachable inode by a name of at most `max_name` bytes.
pub record NamesReached (image : Image) (words : List ℕ) : Type 0 where
  pub reached : slice_index words 0 ≢ 0 → IsReached image (slice_index words 0)
  pub short : slice_index words 0 ≢ 0 → slice_index words 1 ≤ max_name

-- A property holds of the words of each entry.
abbrev pub EachEntry : (List ℕ → Type 0) → List ℕ → Type 0
EachEntry P words = (index : ℕ) → index < length words / entry_words
    → P (slice_range words (entry_words * index) (entry_words * index + entry_words))
