-- The bytes of words, in the order of their places.
use Rattle.std.proofs.Common.{◌≡◌, ℕ, ◌+◌, ◌*◌, ◌/◌, ◌%◌, ◌≤◌, slice_range, refl, sym, ◌∙◌, ap, ap₂, arith}
use Rattle.std.specs.Int.{w64, to_le_bytes}
use Rattle.std.specs.List.{between}
use Rattle.std.proofs.lemmas.List.Edits.{length-between, get_or-between}
use Rattle.bp_layout.specs.Words.{Image, word, byte_of}
use Rattle.bp_layout.specs.Bytes.{stored_byte, stored_bytes}
use Rattle.bp_layout.proofs.LoadedWords.{loaded_word}
use Rattle.bp_layout.proofs.Ranges.{from_elements, same_values}
use Rattle.bp_layout.proofs.WordBytes.{to_le-byte}

-- some of the bytes of a word
pub word_part : (image : Image) (at first n value : ℕ) → first + n ≤ 8 → value ≡ word image at →
    between first (first + n) (to_le_bytes w64 value) ≡ stored_bytes image (8 * at + first) n
word_part image at first n value within is =
    from_elements (stored_byte image) (8 * at + first) n (between first (first + n) (to_le_bytes w64 value))
    (length-between (to_le_bytes w64 value) first (first + n) (omega (arith, within)) ∙ omega arith)
    (λ i low.
    let here : (8 * at + first + i) / 8 ≡ at = omega (arith, within, low) in
    let column : (8 * at + first + i) % 8 ≡ first + i = omega (arith, within, low) in
    get_or-between (to_le_bytes w64 value) first (first + n) i 0 (omega (arith, low))
    ∙ to_le-byte value (first + i) (omega (arith, within, low))
    ∙ rw (here, column, is) refl)

-- all of them
pub whole_word : (image : Image) (at value : ℕ) → value ≡ word image at → to_le_bytes w64 value ≡ stored_bytes image (8 * at) 8
whole_word image at value is =
    from_elements (stored_byte image) (8 * at) 8 (to_le_bytes w64 value) refl
    (λ i low.
    let here : (8 * at + i) / 8 ≡ at = omega (arith, low) in
    let column : (8 * at + i) % 8 ≡ i = omega (arith, low) in
    to_le-byte value i low ∙ rw (here, column, is) refl)

-- the bytes of words that are loaded in one go
pub run_part : (image words : Image) (first count n : ℕ) → words ≡ slice_range image first (first + count) → n ≤ 8 * count →
    stored_bytes words 0 n ≡ stored_bytes image (8 * first) n
run_part image words first count n run within =
    same_values (stored_byte words) (stored_byte image) 0 (8 * first) n
    (λ i low.
    let here : (8 * first + i) / 8 ≡ first + (0 + i) / 8 = omega arith in
    let column : (8 * first + i) % 8 ≡ (0 + i) % 8 = omega arith in
    ap (λ w. byte_of w ((0 + i) % 8)) (loaded_word image words first count run ((0 + i) / 8) (omega (arith, low, within)))
    ∙ ap₂ (λ p k. byte_of (word image p) k) (sym here) (sym column))
