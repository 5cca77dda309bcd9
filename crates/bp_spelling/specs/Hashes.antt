-- Hashes of names, and the order by hashes.
use Rattle.std.specs.Prelude.{◌≡◌, ℕ, zero, suc, ◌+◌, ◌*◌, ◌/◌, ◌%◌, ◌^◌, min, List, ◌∷◌, map, Bool, bit_xor}
use Rattle.std.specs.declared.cmp.Ordering.{Ordering}
use Rattle.std.specs.Int.{div_ceil}
use Rattle.std.specs.Ordering.{nat_cmp, is_lt}
use Rattle.std.specs.Cmp.Lexicographic.{slice_cmp}
use Rattle.bp_limits.specs.Limits.{entry_words}
use Rattle.bp_layout.specs.Words.{Image, word}
use Rattle.bp_spelling.specs.declared.entry.Spelled.{Spelled}
use Rattle.bp_spelling.specs.Places.{key_word, name_key}

-- A 64-bit word, with its high half folded into its low half.
abbrev pub folded : ℕ → ℕ
folded value = bit_xor value (value / 2 ^ 32)

-- The hash after one more word, given the hash of the words before it.
unfoldable pub mixed : ℕ → ℕ → ℕ
mixed state value = folded ((11400714819323198485 * ((state + value) % 2 ^ 64)) % 2 ^ 64)

-- The hash of the length of a name and of this number of words of the name.
unfoldable pub hash_state : Image → ℕ → ℕ → ℕ
hash_state image place zero = mixed 0 (key_word image place 0)
hash_state image place (suc part) = mixed (hash_state image place part) (key_word image place (suc part))

-- The hash of a name, which has at most 30 words.
unfoldable pub name_hash : Image → ℕ → ℕ
name_hash image place = hash_state image place (min 30 (div_ceil (word image (place + 1)) 8)) / 2 ^ 32

-- The place of an entry: entries begin at multiples of their number of words.
abbrev pub place_of : Spelled → ℕ
place_of entry = entry_words * entry.number

-- The recorded hash is that of the entry's name.
abbrev pub IsSpelled : Image → Spelled → Type 0
IsSpelled image entry = entry.hash ≡ name_hash image (place_of entry)

-- The places of the entries.
abbrev pub places_of : List Spelled → List ℕ
places_of entries = map place_of entries

-- The sort key of an entry: its hash, and then its name.
abbrev pub spelled_key : Image → Spelled → List ℕ
spelled_key image entry = entry.hash ∷ name_key image (place_of entry)

abbrev pub spelled_cmp : Image → Spelled → Spelled → Ordering
spelled_cmp image a b = slice_cmp nat_cmp (spelled_key image a) (spelled_key image b)

abbrev pub spelled_lt : Image → Spelled → Spelled → Bool
spelled_lt image a b = is_lt (spelled_cmp image a b)
