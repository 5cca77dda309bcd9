-- The stretches of the content of a tree.
use Rattle.std.proofs.Common.{◌≡◌, ◌⊎◌, ℕ, zero, suc, ◌-◌, ◌*◌, ◌/◌, ◌%◌, ◌+◌, ◌<◌, ◌≤◌, List, length, take, drop, replicate, true, min, refl, sym, ◌∙◌, ap, arith, inl, inr, length-drop, take_all}
use Rattle.std.proofs.lemmas.Bool.{cases_lt}
use Rattle.std.proofs.lemmas.List.FromFn.{length-map-range_with_len}
use Rattle.bp_limits.specs.Limits.{block_size}
use Rattle.bp_layout.specs.Words.{Image, height_of}
use Rattle.bp_layout.specs.Tree.{byte, content, node}
use Rattle.bp_plain.specs.Export.{is_zeros, stretch, stretches}
use Rattle.bp_read.specs.Bytes.{content_part}
use Rattle.bp_read.specs.Leaves.{HasNoLeafFrom, IsNextLeaf}
use Rattle.bp_read.proofs.ContentParts.{content_part-is}
use Rattle.bp_read.proofs.StoredBytes.{null_part}

pub length_content : (image : Image) (root size : ℕ) → length (content image root size) ≡ size
length_content image root size = length-map-range_with_len (byte image root) 0 size

take_least : (n : ℕ) (xs : List ℕ) → take n xs ≡ take (min n (length xs)) xs
take_least n xs = go (cases_lt n (length xs))
  where
    go : (n < length xs) ⊎ (length xs ≤ n) → take n xs ≡ take (min n (length xs)) xs
    go (inl low) = let same : min n (length xs) ≡ n = omega (arith, low) in ap (λ k. take k xs) (sym same)
    go (inr high) =
        let same : min n (length xs) ≡ length xs = omega (arith, high) in
        take_all n xs high ∙ sym (take_all (length xs) xs (omega arith)) ∙ ap (λ k. take k xs) (sym same)

-- a stretch is that part of the content
pub stretch_is : (image : Image) (root size k n : ℕ) → block_size * k < size → n ≡ min block_size (size - block_size * k) → content_part image root (block_size * k) n ≡ stretch (content image root size) k
stretch_is image root size k n live is =
    let bytes : List ℕ = content image root size in
    let count : n ≡ min 4096 (length (drop (4096 * k) (content image root size))) =
    is ∙ ap (λ m. min 4096 m) (sym (length-drop (4096 * k) (content image root size) ∙ ap (λ m. m - 4096 * k) (length_content image root size))) in
    content_part-is image root size (4096 * k) n (omega (arith, live, is))
    ∙ ap (λ m. take m (drop (4096 * k) (content image root size))) count
    ∙ sym (take_least 4096 (drop (4096 * k) (content image root size)))

-- the bytes that are read there
pub stretch_read : (image : Image) (root size k count : ℕ) (old new : List ℕ) → length old ≡ block_size → block_size * k < size → count ≡ min (length old) (size - block_size * k) → take count new ≡ content_part image root (block_size * k) count → take count new ≡ stretch (content image root size) k
stretch_read image root size k count old new room live least is = is ∙ stretch_is image root size k count live (least ∙ ap (λ n. min n (size - 4096 * k)) room)

zeros_alone : (n : ℕ) → is_zeros (replicate n 0) ≡ true
zeros_alone zero = refl
zeros_alone (suc n) = zeros_alone n

-- a null leaf is a stretch of zeros
pub null_zeros : (image : Image) (root size leaf : ℕ) → block_size * leaf < size → node image root (height_of root) leaf ≡ 0 → is_zeros (stretch (content image root size) leaf) ≡ true
null_zeros image root size leaf live null =
    let n : ℕ = min 4096 (size - 4096 * leaf) in
    let here : 4096 * leaf / 4096 ≡ leaf = omega arith in
    let within : 4096 * leaf % 4096 + min 4096 (size - 4096 * leaf) ≤ 4096 = omega arith in
    ap is_zeros
    (sym (stretch_is image root size leaf (min 4096 (size - 4096 * leaf)) live refl)
    ∙ sym (null_part image root (4096 * leaf) (min 4096 (size - 4096 * leaf)) 0 refl (sym null ∙ ap (node image root (height_of root)) (sym here)) within))
    ∙ zeros_alone (min 4096 (size - 4096 * leaf))

pub live_stretch : (image : Image) (root size leaf : ℕ) → block_size * leaf < size → leaf < stretches (content image root size)
live_stretch image root size leaf live = omega (arith, live, length_content image root size)

pub zeros_before : (image : Image) (root size from leaf : ℕ) → IsNextLeaf image root size from leaf → (j : ℕ) → from ≤ j → j < leaf → is_zeros (stretch (content image root size) j) ≡ true
zeros_before image root size from leaf next j following low = null_zeros image root size j (omega (arith, low, next.live)) (next.first j following low)

pub zeros_from : (image : Image) (root size from : ℕ) → HasNoLeafFrom image root size from → (j : ℕ) → from ≤ j → block_size * j < length (content image root size) → is_zeros (stretch (content image root size) j) ≡ true
zeros_from image root size from none j following live =
    let low : 4096 * j < size = omega (arith, live, length_content image root size) in
    null_zeros image root size j low (none j following low)

-- the stretches that are left
pub zeros_left : (image : Image) (root size from : ℕ) → HasNoLeafFrom image root size from → (j : ℕ) → from ≤ j → j < stretches (content image root size) → is_zeros (stretch (content image root size) j) ≡ true
zeros_left image root size from none j following low = zeros_from image root size from none j following (omega (arith, low))
