-- A directory is a sequence of entries of 32 words: an inode number (0 if the entry is empty), the length of a name in
-- bytes, and the bytes of the name.
use Rattle.std.specs.Prelude.{◌≡◌, ◌≢◌, ℕ, ◌+◌, ◌*◌, ◌/◌, ◌<◌, List, map, Bool, not, ◌&&◌, ◌==◌, bytes_eq, Option, None, find, option_map, if◌then◌else◌}
use Rattle.std.specs.List.{range_with_len}
use Rattle.bp_layout.specs.Paths.{Name}
use Rattle.bp_layout.specs.Words.{Image}
use Rattle.bp_layout.specs.Tree.{content_word, byte}
use Rattle.bp_limits.specs.Limits.{directory_kind, entry_size, entry_words}
use Rattle.bp_layout.specs.Inode.{IsDirectory, kind_of, root_of, size_of}

-- ---- the entries of a tree

abbrev pub word_in : Image → ℕ → ℕ → ℕ → ℕ
word_in image root slot f = content_word image root (entry_words * slot + f)

abbrev pub ino_in : Image → ℕ → ℕ → ℕ
ino_in image root slot = word_in image root slot 0

abbrev pub name_in : Image → ℕ → ℕ → Name
name_in image root slot =
    map (λ o. byte image root (entry_size * slot + 16 + o)) (range_with_len 0 (word_in image root slot 1))

-- the numbers of the slots (entries) that lie below the size of a directory
abbrev pub slots : ℕ → List ℕ
slots size = range_with_len 0 (size / entry_size)

-- the first empty slot of a directory, and the first slot with a given name
abbrev pub empty_slot_in : Image → ℕ → ℕ → Option ℕ
empty_slot_in image root size = find (λ slot. ino_in image root slot == 0) (slots size)

abbrev pub is_named_in : Image → ℕ → Name → ℕ → Bool
is_named_in image root name slot = not (ino_in image root slot == 0) && bytes_eq (name_in image root slot) name

abbrev pub slot_named_in : Image → ℕ → ℕ → Name → Option ℕ
slot_named_in image root size name = find (is_named_in image root name) (slots size)

-- ---- the entries of an inode's tree

abbrev pub entry_word : Image → ℕ → ℕ → ℕ → ℕ
entry_word image i slot f = word_in image (root_of image i) slot f

abbrev pub entry_count : Image → ℕ → ℕ
entry_count image i = size_of image i / entry_size

abbrev pub ino_at : Image → ℕ → ℕ → ℕ
ino_at image i slot = ino_in image (root_of image i) slot

abbrev pub name_at : Image → ℕ → ℕ → Name
name_at image i slot = name_in image (root_of image i) slot

abbrev pub is_named : Image → ℕ → Name → ℕ → Bool
is_named image i name slot = is_named_in image (root_of image i) name slot

abbrev pub slot_named : Image → ℕ → Name → Option ℕ
slot_named image i name = slot_named_in image (root_of image i) (size_of image i) name

abbrev pub empty_slot : Image → ℕ → Option ℕ
empty_slot image i = empty_slot_in image (root_of image i) (size_of image i)

-- directory i has an entry for inode j at this slot
pub record EntryNames (image : Image) (i slot j : ℕ) : Type 0 where
  pub directory : IsDirectory image i
  pub in_size : slot < entry_count image i
  pub ino : ino_at image i slot ≡ j
  pub not_empty : j ≢ 0

-- the inode to which a name of directory i leads, or none
abbrev pub lookup_in : Image → ℕ → Name → Option ℕ
lookup_in image i name =
    if kind_of image i == directory_kind then option_map (ino_at image i) (slot_named image i name) else None
