-- An image as a list of bytes.
use Rattle.std.specs.Prelude.{ℕ, ◌/◌, ◌%◌, List, flat_map, map}
use Rattle.std.specs.List.{range_with_len}
use Rattle.pm_words.specs.Bytes.{word_bytes}
use Rattle.bp_layout.specs.Words.{Image, word, byte_of}

-- the bytes of an image, word by word, the lowest byte of a word first
unfoldable pub image_bytes : Image → List ℕ
image_bytes image = flat_map word_bytes image

-- the byte at a place; word w has the places 8 * w to 8 * w + 7
abbrev pub stored_byte : Image → ℕ → ℕ
stored_byte image place = byte_of (word image (place / 8)) (place % 8)

-- `count` bytes of an image, from a place on
abbrev pub stored_bytes : Image → ℕ → ℕ → List ℕ
stored_bytes image place count = map (stored_byte image) (range_with_len place count)
