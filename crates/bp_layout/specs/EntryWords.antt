-- Entries and names as words.
use Rattle.std.specs.Prelude.{◌≡◌, ℕ, ◌+◌, ◌-◌, ◌*◌, ◌/◌, ◌<◌, List, length, slice_index, take, drop}
use Rattle.bp_limits.specs.Limits.{entry_words}
use Rattle.pm_words.specs.Bytes.{word_of}
use Rattle.bp_layout.specs.Words.{Image}
use Rattle.bp_layout.specs.Directory.{word_in}
use Rattle.bp_layout.specs.Paths.{Name}

-- all words of the entry in a slot
pub record HasWords (image : Image) (root slot : ℕ) (words : List ℕ) : Type 0 where
  pub long : length words ≡ entry_words
  pub each : (field : ℕ) → field < entry_words → slice_index words field ≡ word_in image root slot field

-- each word of the entry in a slot is 0
abbrev pub IsZeroEntry : Image → ℕ → ℕ → Type 0
IsZeroEntry image root slot = (field : ℕ) → field < entry_words → word_in image root slot field ≡ 0

-- all words of `count` consecutive entries, from slot `first` on
pub record IsRow (image : Image) (root first count : ℕ) (words : List ℕ) : Type 0 where
  pub long : length words ≡ entry_words * count
  pub each : (index field : ℕ) → index < count → field < entry_words → slice_index words (entry_words * index + field)
      ≡ word_in image root (first + index) field

-- the eight bytes of a name in one word, fewer in the last word
abbrev pub part_word : Name → ℕ → ℕ
part_word name part = word_of (take 8 (drop (8 * part) name))

-- the number of whole words before the last word of a name
abbrev pub last_part : Name → ℕ
last_part name = (length name - 1) / 8
