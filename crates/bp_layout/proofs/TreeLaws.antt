-- What a tree means stands on its live words alone.
use Rattle.std.proofs.Common.{◌^◌, subst, ◌≤◌, ◌≡◌, ◌≢◌, ℕ, zero, suc, ◌+◌, ◌*◌, ◌/◌, ◌%◌, ◌<◌, refl, sym, ◌∙◌, ap, arith, pow-suc, length, lt_of_le_of_lt, le_trans, le_of_eq, mul_assoc, mul-le-mul_right, div-mul-le_self}
use Rattle.bp_layout.specs.Words.{Image, word, block_of, height_of, slot_word, byte_of}
use Rattle.bp_layout.specs.Tree.{tree_word, node, content_word, covered, span, IsLiveWord, IsLivePointer, HasBlock, IsSound, IsFull}

-- the two equations of a word
pub tree_word-zero : (image : Image) (root index : ℕ) → tree_word image root zero index ≡ root
unfolding tree_word
tree_word-zero image root index = refl

pub tree_word-suc : (image : Image) (root depth index : ℕ) →
    tree_word image root (suc depth) index ≡ slot_word image (node image root depth (index / 512)) (index % 512)
unfolding tree_word
tree_word-suc image root depth index = refl

pub covered-suc : (rank : ℕ) → covered (suc rank) ≡ 512 * covered rank
covered-suc rank = rw pow-suc (omega arith)

-- a node at a level covers 4096 bytes for each leaf below it
pub span-is : (level : ℕ) → span level ≡ 4096 * 512 ^ level
span-is level = rw (covered-suc level) (omega arith)

scaled : (index rank size : ℕ) → index * covered rank < size → index / 512 * covered (suc rank) < size
scaled index rank size live =
    let c : ℕ = covered rank in
    rw covered-suc (lt_of_le_of_lt (le_trans (le_of_eq (sym (mul_assoc (index / 512) 512 c))) (mul-le-mul_right c (div-mul-le_self index 512))) live)

-- the pointer above a live word is live
pub live_above : (root size depth index : ℕ) → IsLiveWord root size (suc depth) index → IsLivePointer root size depth (index / 512)
live_above root size depth index w = record { level = w.rank; height = omega (arith, w.height); live = scaled index w.rank size w.live }

pub live_pointer_word : (root size depth index : ℕ) → IsLivePointer root size depth index → IsLiveWord root size depth index
live_pointer_word root size depth index p = record { rank = suc p.level; height = omega (arith, p.height); live = p.live }

-- each live word of the first image stands at its place in the second
pub record KeepsLiveWords (old new : Image) (root size : ℕ) : Type 0 where
  pub kept : (d k : ℕ) → IsLiveWord root size (suc d) k →
      slot_word new (node old root d (k / 512)) (k % 512) ≡ slot_word old (node old root d (k / 512)) (k % 512)

pub tree_word-kept : (old new : Image) (root size : ℕ) → KeepsLiveWords old new root size →
    (d k : ℕ) → IsLiveWord root size d k → tree_word new root d k ≡ tree_word old root d k
unfolding tree_word
tree_word-kept old new root size keeps zero k live = refl
tree_word-kept old new root size keeps (suc d) k live =
    let above : tree_word new root d (k / 512) ≡ tree_word old root d (k / 512) =
    tree_word-kept old new root size keeps d (k / 512) (live_pointer_word root size d (k / 512) (live_above root size d k live)) in
    ap (λ p. slot_word new (block_of p) (k % 512)) above ∙ keeps.kept d k live

-- the same of the pointers alone, and what that says of the content
pub record KeepsPointers (old new : Image) (root size : ℕ) : Type 0 where
  pub kept : (d k : ℕ) → IsLivePointer root size (suc d) k →
      slot_word new (node old root d (k / 512)) (k % 512) ≡ slot_word old (node old root d (k / 512)) (k % 512)

pub pointer-kept : (old new : Image) (root size : ℕ) → KeepsPointers old new root size →
    (d k : ℕ) → IsLivePointer root size d k → tree_word new root d k ≡ tree_word old root d k
unfolding tree_word
pointer-kept old new root size keeps zero k live = refl
pointer-kept old new root size keeps (suc d) k live =
    let above : tree_word new root d (k / 512) ≡ tree_word old root d (k / 512) =
    pointer-kept old new root size keeps d (k / 512) (live_above root size d k (live_pointer_word root size (suc d) k live)) in
    ap (λ p. slot_word new (block_of p) (k % 512)) above ∙ keeps.kept d k live

-- a content word is live where its first byte is below the size
pub live_content : (root size index : ℕ) → 8 * index < size → IsLiveWord root size (suc (height_of root)) index
live_content root size index below = record { rank = 0; height = omega arith; live = omega (arith, below) }

pub content-kept : (old new : Image) (root size : ℕ) → KeepsPointers old new root size → (index : ℕ) → 8 * index < size →
    content_word new root index ≡ slot_word new (node old root (height_of root) (index / 512)) (index % 512)
unfolding tree_word
content-kept old new root size keeps index below =
    ap (λ p. slot_word new (block_of p) (index % 512)) (pointer-kept old new root size keeps (height_of root) (index / 512) (live_above root size (height_of root) index (live_content root size index below)))

-- a slot of a block that is not null
pub slot_word-at : (image : Image) (block slot : ℕ) → block ≢ 0 → slot_word image block slot ≡ word image (512 * block + slot)
slot_word-at image zero slot present = absurd (present refl)
slot_word-at image (suc b) slot present = refl

-- two images with the same word at a slot's place have the same word in the slot
pub slot_word-same : (old new : Image) (block slot : ℕ) → (block ≢ 0 → word new (512 * block + slot) ≡ word old (512 * block + slot)) →
    slot_word new block slot ≡ slot_word old block slot
slot_word-same old new zero slot same = refl
slot_word-same old new (suc b) slot same = same (λ e. absurd (cc))

-- the same of a byte of those words
pub slot_byte-same : (old new : Image) (block slot index : ℕ) → (block ≢ 0 → byte_of (word new (512 * block + slot)) index ≡ byte_of (word old (512 * block + slot)) index) →
    byte_of (slot_word new block slot) index ≡ byte_of (slot_word old block slot) index
slot_byte-same old new zero slot index same = refl
slot_byte-same old new (suc b) slot index same = same (λ e. absurd (cc))

module _ (old new : Image) (root size : ℕ) (keeps : KeepsPointers old new root size) where
  pub node-kept : (d k : ℕ) → IsLivePointer root size d k → node new root d k ≡ node old root d k
  node-kept d k live = ap block_of (pointer-kept old new root size keeps d k live)

  pub sound-kept : length new ≡ length old → IsSound old root size → IsSound new root size
  sound-kept whole sound = record {
    low = sound.low;
    root_bits = sound.root_bits;
    pointer_bits = λ d k live. rw (pointer-kept old new root size keeps (suc d) k live) (sound.pointer_bits d k live);
    in_range = λ d k live. rw (node-kept d k live, whole) (sound.in_range d k live);
    once = λ d k e l p q present same. sound.once d k e l p q (λ null. present (node-kept d k p ∙ null)) (sym (node-kept d k p) ∙ same ∙ node-kept e l q);
    fits = sound.fits;
  }

  pub full-kept : IsFull old root size → IsFull new root size
  full-kept full d k live null = full d k live (sym (node-kept d k live) ∙ null)

  pub has_block-kept : (b : ℕ) → HasBlock new root size b → HasBlock old root size b
  has_block-kept b has = record {
    depth = has.depth;
    index = has.index;
    pointer = has.pointer;
    named = sym (node-kept has.depth has.index has.pointer) ∙ has.named;
    not_null = has.not_null;
  }

  pub has_block-stays : (b : ℕ) → HasBlock old root size b → HasBlock new root size b
  has_block-stays b has = record {
    depth = has.depth;
    index = has.index;
    pointer = has.pointer;
    named = node-kept has.depth has.index has.pointer ∙ has.named;
    not_null = has.not_null;
  }

-- a live pointer at depth 0 has number 0, in a tree whose size its height can hold
pub first_index : (root size k : ℕ) → size ≤ covered (suc (height_of root)) → IsLivePointer root size 0 k → k ≡ 0
first_index root size k fits live =
    let level : live.level ≡ height_of root = omega (arith, live.height) in
    let below : k * covered (suc (height_of root)) < size = subst (λ l. k * covered (suc l) < size) level live.live in
    go k below
  where
    go : (k : ℕ) → k * covered (suc (height_of root)) < size → k ≡ 0
    go zero below = refl
    go (suc k) below =
        let c : ℕ = covered (suc (height_of root)) in
        absurd (omega (arith, below, fits))
