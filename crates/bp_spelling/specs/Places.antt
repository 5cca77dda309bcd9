-- The places of a directory's entries, and the names there.
use Rattle.std.specs.Prelude.{◌≡◌, ◌≢◌, ◌⊎◌, ℕ, zero, suc, ◌+◌, ◌-◌, ◌*◌, ◌/◌, ◌%◌, ◌^◌, ◌<◌, min, List, length, map, filter, not, ◌==◌, slice_index, Option, MatchOption}
use Rattle.std.specs.List.{range_with_len}
use Rattle.std.specs.declared.cmp.Ordering.{Ordering}
use Rattle.std.specs.Ordering.{nat_cmp}
use Rattle.std.specs.Cmp.Lexicographic.{slice_cmp}
use Rattle.bp_layout.specs.Words.{Image, word, byte_of}
use Rattle.bp_layout.specs.Directory.{ino_in, name_in}
use Rattle.bp_layout.specs.Paths.{Name, IsName}
use Rattle.bp_spelling.specs.Names.{IsUsed, entry_place_in}

-- The name of the entry at a place.
abbrev pub name_there : Image → ℕ → Name
name_there image place =
    map (λ o. byte_of (word image (place + 2 + o / 8)) (o % 8)) (range_with_len 0 (word image (place + 1)))

-- A byte that is neither 0 nor `/`. `ArePlainBytes`: the lowest `count` bytes of a word are such bytes. `ArePlain`: so
-- are `count` bytes from a word on.
abbrev pub IsPlain : ℕ → Type 0
IsPlain byte = (byte ≢ 0) × (byte ≢ 47)

abbrev pub ArePlainBytes : ℕ → ℕ → Type 0
ArePlainBytes value count = (o : ℕ) → o < min 8 count → IsPlain (byte_of value o)

abbrev pub ArePlain : Image → ℕ → ℕ → Type 0
ArePlain image first count = (o : ℕ) → o < count → IsPlain (byte_of (word image (first + o / 8)) (o % 8))

-- A name of `count` bytes whose first bytes are in this word is `.` or `..`.
abbrev pub IsDots : ℕ → ℕ → Type 0
IsDots value count = ((count ≡ 1) × (value % 256 ≡ 46)) ⊎ ((count ≡ 2) × (value % 65536 ≡ 11822))

-- Each name of the directory is a valid name.
abbrev pub HaveForms : Image → ℕ → ℕ → Type 0
HaveForms image root size = (slot : ℕ) → IsUsed image root size slot → IsName (name_in image root slot)

-- A name is not valid, and its length is at this word.
pub record IsMisspelled (image : Image) (root size place : ℕ) : Type 0 where
  pub slot : ℕ
  pub used : IsUsed image root size slot
  pub wrong : ¬ IsName (name_in image root slot)
  pub there : place ≡ entry_place_in image root slot + 1

-- The places of the entries that refer to an inode, in the order of their slots.
abbrev pub used_places : Image → ℕ → List ℕ → List ℕ
used_places image root all =
    map (entry_place_in image root) (filter (λ slot. not (ino_in image root slot == 0)) all)

-- A word of an entry's name, without the bytes past its end. Word 0 is the length.
abbrev pub key_word : Image → ℕ → ℕ → ℕ
key_word image place zero = word image (place + 1)
key_word image place (suc part) = word image (place + 1 + suc part) % 256 ^ min 8 (word image (place + 1) - 8 * part)

unfoldable pub keys : Image → ℕ → ℕ → ℕ → List ℕ
keys image place part count = map (key_word image place) (range_with_len part count)

-- All words of the name, with its length first.
unfoldable pub name_key : Image → ℕ → List ℕ
name_key image place = keys image place 0 31

-- The order of two names' words from one on. `name_cmp`: the order of two names.
abbrev pub rest_cmp : Image → ℕ → ℕ → ℕ → Ordering
rest_cmp image a b part = slice_cmp nat_cmp (keys image a part (31 - part)) (keys image b part (31 - part))

abbrev pub name_cmp : Image → ℕ → ℕ → Ordering
name_cmp image a b = slice_cmp nat_cmp (name_key image a) (name_key image b)

-- No two of the entries have the same name.
abbrev pub HaveOwnNames : Image → List ℕ → Type 0
HaveOwnNames image places = (i j : ℕ) → i < j → j < length places
    → name_key image (slice_index places i) ≡ name_key image (slice_index places j) → ⊥

-- Two of the entries have the same name, and the second is at this place.
pub record IsDouble (image : Image) (places : List ℕ) (place : ℕ) : Type 0 where
  pub first : ℕ
  pub second : ℕ
  pub order : first < second
  pub low : second < length places
  pub there : slice_index places second ≡ place
  pub same : name_key image (slice_index places first) ≡ name_key image (slice_index places second)

-- The result is the place of the second of two entries with the same name, or none if no two have the same name.
abbrev pub FindsDouble : Option ℕ → Image → List ℕ → Type 0
FindsDouble found image places = MatchOption found (HaveOwnNames image places) (IsDouble image places)
