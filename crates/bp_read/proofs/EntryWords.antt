-- Where the words and bytes of an entry stand.
use Rattle.std.proofs.Common.{◌≡◌, ◌≢◌, ℕ, ◌+◌, ◌*◌, ◌/◌, ◌%◌, ◌<◌, ◌≤◌, List, length, slice_range, sym, ◌∙◌, ap, ap₂, arith}
use Rattle.bp_layout.specs.Words.{Image, block_count, height_of, slot_word, word}
use Rattle.bp_layout.specs.Tree.{node, IsSound, IsLivePointer}
use Rattle.bp_layout.specs.Directory.{word_in}
use Rattle.bp_layout.specs.EntryWords.{IsRow}
use Rattle.bp_read.specs.EntryWords.{IsLeaf}
use Rattle.bp_read.specs.declared.leaf.Leaf.{Leaf}
use Rattle.bp_layout.proofs.TreeLaws.{slot_word-at, tree_word-suc}
use Rattle.bp_layout.proofs.LoadedWords.{length-loaded, loaded_word}

pub word_in-at : (image : Image) (root slot f : ℕ) → f < 32 →
    word_in image root slot f ≡ slot_word image (node image root (height_of root) (slot / 16)) (32 * (slot % 16) + f)
word_in-at image root slot f within =
    let leaf : (32 * slot + f) / 512 ≡ slot / 16 = omega arith in
    let at : (32 * slot + f) % 512 ≡ 32 * (slot % 16) + f = omega arith in
    tree_word-suc image root (height_of root) (32 * slot + f) ∙ ap₂ (λ l s. slot_word image (node image root (height_of root) l) s) leaf at

-- the leaf with a live entry is live
pub leaf_pointer : (root size slot : ℕ) → slot < size / 256 → IsLivePointer root size (height_of root) (slot / 16)
leaf_pointer root size slot live = record { level = 0; height = omega arith; live = omega arith }

pub leaf_in_range : (image : Image) (root size slot : ℕ) → IsSound image root size → slot < size / 256 → node image root (height_of root) (slot / 16) < block_count image
leaf_in_range image root size slot sound live = sound.in_range _ _ (leaf_pointer root size slot live)

-- all words of a null leaf's entries are 0, so that each of them is empty
pub null_word : (image : Image) (leaf : Leaf) (slot f : ℕ) → f < 32 → IsLeaf image leaf → leaf.block ≡ 0 → leaf.first ≤ slot → slot < leaf.first + leaf.count → word_in image leaf.tree.root slot f ≡ 0
null_word image leaf slot f within is none low high =
    let same : slot / 16 ≡ leaf.first / 16 = omega (arith, is.starts, is.few) in
    word_in-at image leaf.tree.root slot f within
    ∙ ap (λ b. slot_word image b (32 * (slot % 16) + f)) (ap (node image leaf.tree.root (height_of leaf.tree.root)) same ∙ sym is.block ∙ none)

pub null_leaf : (image : Image) (leaf : Leaf) (slot : ℕ) → IsLeaf image leaf → leaf.block ≡ 0 → leaf.first ≤ slot → slot < leaf.first + leaf.count → word_in image leaf.tree.root slot 0 ≡ 0
null_leaf image leaf slot = null_word image leaf slot 0 (omega arith)

-- ---- the words of a leaf's entries, in a row

pub leaf_block_in_range : (image : Image) (leaf : Leaf) → IsLeaf image leaf → leaf.block < block_count image
leaf_block_in_range image leaf is = omega (arith, is.block, leaf_in_range image leaf.tree.root leaf.tree.size leaf.first is.sound (omega (arith, is.live, is.some)))

pub row_of : (image : Image) (leaf : Leaf) (words : List ℕ) → IsLeaf image leaf → leaf.block ≢ 0 → 512 * leaf.block + 32 * leaf.count ≤ length image →
    words ≡ slice_range image (512 * leaf.block) (512 * leaf.block + 32 * leaf.count) → IsRow image leaf.tree.root leaf.first leaf.count words
row_of image leaf words is some inside run = record {
  long = length-loaded image words (512 * leaf.block) (32 * leaf.count) run inside;
  each = λ index field low within.
      let leaf_is : (leaf.first + index) / 16 ≡ leaf.first / 16 = omega (arith, is.starts, is.few, low) in
      let slot_is : (leaf.first + index) % 16 ≡ index = omega (arith, is.starts, is.few, low) in
      let at : 512 * leaf.block + (32 * index + field) ≡ 512 * leaf.block + (32 * ((leaf.first + index) % 16) + field) = omega (arith, slot_is) in
      loaded_word image words (512 * leaf.block) (32 * leaf.count) run (32 * index + field) (omega (arith, low, within))
      ∙ ap (word image) at
      ∙ sym (slot_word-at image leaf.block (32 * ((leaf.first + index) % 16) + field) some)
      ∙ ap (λ b. slot_word image b (32 * ((leaf.first + index) % 16) + field)) (is.block ∙ ap (node image leaf.tree.root (height_of leaf.tree.root)) (sym leaf_is))
      ∙ sym (word_in-at image leaf.tree.root (leaf.first + index) field within);
}
