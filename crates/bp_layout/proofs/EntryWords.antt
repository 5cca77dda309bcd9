-- Where the words and bytes of an entry are.
use Rattle.std.proofs.Common.{◌≡◌, ℕ, ◌+◌, ◌*◌, ◌/◌, ◌%◌, ◌<◌, ◌≤◌, List, take, drop, slice_index, slice_range, refl, sym, ◌∙◌, ap, ap₂, arith}
use Rattle.std.proofs.lemmas.List.{get_or-drop}
use Rattle.std.proofs.lemmas.List.FromFn.{take-map-range_with_len}
use Rattle.bp_layout.specs.Words.{Image, byte_of}
use Rattle.bp_layout.specs.Bytes.{stored_byte, stored_bytes}
use Rattle.bp_layout.specs.Tree.{byte, content_word}
use Rattle.bp_layout.specs.Directory.{word_in, name_in}
use Rattle.bp_layout.specs.EntryWords.{HasWords, IsRow}
use Rattle.bp_layout.specs.Fields.{name_byte, name_of}
use Rattle.bp_layout.proofs.Finding.{map-same}
use Rattle.bp_layout.proofs.LoadedWords.{length-loaded, loaded_word}

pub byte-at : (image : Image) (root slot part o : ℕ) → o < 8 →
    byte image root (256 * slot + 16 + (8 * part + o)) ≡ byte_of (word_in image root slot (2 + part)) o
byte-at image root slot part o within =
    let whole : (256 * slot + 16 + (8 * part + o)) / 8 ≡ 32 * slot + (2 + part) = omega arith in
    let rest : (256 * slot + 16 + (8 * part + o)) % 8 ≡ o = omega arith in
    ap₂ (λ w i. byte_of (content_word image root w) i) whole rest

-- the name that an entry's words hold
pub name_in-words : (image : Image) (root slot : ℕ) (words : List ℕ) → word_in image root slot 1 ≤ 240 →
    ((field : ℕ) → field < 32 → slice_index words field ≡ word_in image root slot field) → name_of words ≡ name_in image root slot
name_in-words image root slot words short same =
    rw (same 1 (omega arith))
    (map-same (name_byte words) (λ o. byte image root (256 * slot + 16 + o)) 0 (word_in image root slot 1) (λ o low high.
    let whole : 8 * (o / 8) + o % 8 ≡ o = omega arith in
    let field : 2 + o / 8 < 32 = omega (arith, high, short) in
    ap (λ w. byte_of w (o % 8)) (same (2 + o / 8) field) ∙ sym (byte-at image root slot (o / 8) (o % 8) (omega arith)) ∙ ap (λ k. byte image root (256 * slot + 16 + k)) whole))

-- and the bytes in which it stands
pub name_of-bytes : (words : List ℕ) (n : ℕ) → slice_index words 1 ≤ n → take (slice_index words 1) (stored_bytes (drop 2 words) 0 n) ≡ name_of words
name_of-bytes words n short =
    take-map-range_with_len (stored_byte (drop 2 words)) 0 n (slice_index words 1) short
    ∙ map-same (stored_byte (drop 2 words)) (name_byte words) 0 (slice_index words 1) (λ o low high. ap (λ w. byte_of w (o % 8)) (get_or-drop 2 words (o / 8) 0))

-- the words of one of the entries
pub entry_of : (image : Image) (root first count index : ℕ) (words : List ℕ) → IsRow image root first count words → index < count →
    HasWords image root (first + index) (slice_range words (32 * index) (32 * index + 32))
entry_of image root first count index words is low = record {
  long = length-loaded words (slice_range words (32 * index) (32 * index + 32)) (32 * index) 32 refl (omega (arith, is.long, low));
  each = λ field within. loaded_word words (slice_range words (32 * index) (32 * index + 32)) (32 * index) 32 refl field within ∙ is.each index field low within;
}

-- the first word of one of the entries
pub ino_of : (image : Image) (root first count index : ℕ) (words : List ℕ) → IsRow image root first count words → index < count →
    slice_index (slice_range words (32 * index) (32 * index + 32)) 0 ≡ word_in image root (first + index) 0
ino_of image root first count index words is low = (entry_of image root first count index words is low).each 0 (omega arith)
