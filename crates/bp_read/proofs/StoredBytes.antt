-- The bytes of words and of leaves, in the order of their places.
use Rattle.std.proofs.Common.{◌≡◌, ◌≢◌, ℕ, ◌+◌, ◌*◌, ◌/◌, ◌%◌, ◌<◌, ◌≤◌, replicate, sym, ◌∙◌, ap, ap₂, arith}
use Rattle.std.proofs.lemmas.List.{get_or-replicate, length-replicate}
use Rattle.bp_layout.specs.Words.{Image, word, height_of, slot_word, byte_of}
use Rattle.bp_layout.specs.Tree.{node, byte, content_word}
use Rattle.bp_layout.proofs.TreeLaws.{tree_word-suc, slot_word-at}
use Rattle.bp_layout.specs.Bytes.{stored_byte, stored_bytes}
use Rattle.bp_read.specs.Bytes.{content_part}
use Rattle.bp_layout.proofs.Ranges.{from_elements, same_values}

-- a byte of a tree, by the leaf that it stands in
in_leaf : (image : Image) (root offset leaf : ℕ) → leaf ≡ node image root (height_of root) (offset / 4096) →
    byte image root offset ≡ byte_of (slot_word image leaf (offset / 8 % 512)) (offset % 8)
in_leaf image root offset leaf is =
    let row : offset / 8 / 512 ≡ offset / 4096 = omega arith in
    ap (λ w. byte_of w (offset % 8))
    (tree_word-suc image root (height_of root) (offset / 8)
    ∙ ap (λ b. slot_word image b (offset / 8 % 512)) (ap (node image root (height_of root)) row ∙ sym is))

-- the bytes under a null leaf
pub null_part : (image : Image) (root offset n leaf : ℕ) → leaf ≡ 0 → leaf ≡ node image root (height_of root) (offset / 4096) → offset % 4096 + n ≤ 4096 →
    replicate n 0 ≡ content_part image root offset n
null_part image root offset n leaf null is within =
    from_elements (byte image root) offset n (replicate n 0) (length-replicate n 0)
    (λ i low.
    let same : (offset + i) / 4096 ≡ offset / 4096 = omega (arith, within, low) in
    get_or-replicate n i 0 0 low
    ∙ sym (in_leaf image root (offset + i) 0 (sym null ∙ is ∙ ap (node image root (height_of root)) (sym same)) ∙ omega arith))

-- the bytes in a leaf
pub leaf_part : (image : Image) (root offset n leaf : ℕ) → leaf ≢ 0 → leaf ≡ node image root (height_of root) (offset / 4096) → offset % 4096 + n ≤ 4096 →
    stored_bytes image (4096 * leaf + offset % 4096) n ≡ content_part image root offset n
leaf_part image root offset n leaf present is within =
    same_values (stored_byte image) (byte image root) (4096 * leaf + offset % 4096) offset n
    (λ i low.
    let same : (offset + i) / 4096 ≡ offset / 4096 = omega (arith, within, low) in
    let place : (4096 * leaf + offset % 4096 + i) / 8 ≡ 512 * leaf + (offset + i) / 8 % 512 = omega (arith, within, low) in
    let column : (4096 * leaf + offset % 4096 + i) % 8 ≡ (offset + i) % 8 = omega (arith, within, low) in
    ap₂ (λ p c. byte_of (word image p) c) place column
    ∙ ap (λ w. byte_of w ((offset + i) % 8)) (sym (slot_word-at image leaf ((offset + i) / 8 % 512) present))
    ∙ sym (in_leaf image root (offset + i) leaf (is ∙ ap (node image root (height_of root)) (sym same))))

-- a content word, by the leaf that it stands in
pub leaf_word : (image : Image) (root leaf block i : ℕ) → i < 512 → block ≡ node image root (height_of root) leaf →
    slot_word image block i ≡ content_word image root (512 * leaf + i)
leaf_word image root leaf block i low is =
    let row : (512 * leaf + i) / 512 ≡ leaf = omega (arith, low) in
    let column : (512 * leaf + i) % 512 ≡ i = omega (arith, low) in
    ap (λ b. slot_word image b i) is
    ∙ sym (tree_word-suc image root (height_of root) (512 * leaf + i) ∙ ap₂ (λ l s. slot_word image (node image root (height_of root) l) s) row column)
