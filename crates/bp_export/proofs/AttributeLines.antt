-- The attributes of an inode are words of it.
use Rattle.std.proofs.Common.{◌≡◌, ℕ, zero, suc, ◌+◌, ◌*◌, ◌/◌, ◌%◌, ◌^◌, ◌<◌, ◌≤◌, length, slice_index, true, refl, sym, ◌∙◌, ap, arith}
use Rattle.bp_limits.specs.CallLimits.{allows_attributes}
use Rattle.bp_layout.specs.Formatted.{version_of}
use Rattle.bp_layout.specs.Inode.{ContentStandsAt, attribute, attributes_of, inode_count, inode_word, root_of, size_of}
use Rattle.bp_layout.specs.Tree.{IsSound, node}
use Rattle.bp_layout.specs.Words.{Image, block_count, height_of, word}
use Rattle.bp_layout.proofs.TreeLaws.{slot_word-at}
use Rattle.bp_read.proofs.InodeWords.{inode_word-at, leaf_pointer}

-- ---- the words of an inode

module _ (image : Image) (i first : ℕ) (stands : ContentStandsAt image 0 (8 * i + 3) first) where
  abbrev block : ℕ
  block = node image (root_of image 0) (height_of (root_of image 0)) (i / 64)

  same_leaf : node image (root_of image 0) (height_of (root_of image 0)) ((8 * i + 3) / 512) ≡ block
  same_leaf = let leaf : (8 * i + 3) / 512 ≡ i / 64 = omega arith in ap (node image (root_of image 0) (height_of (root_of image 0))) leaf

  place_is : (k : ℕ) → k < 3 → first + k ≡ 512 * block + (8 * (i % 64) + (3 + k))
  place_is k few = omega (arith, stands.at, same_leaf, few)

  pub place_low : IsSound image (root_of image 0) (size_of image 0) → i < inode_count image → (k : ℕ) → k < 3 → first + k < length image
  place_low sound there k few =
      let low : block < block_count image = sound.in_range _ _ (leaf_pointer image i there) in
      omega (arith, place_is k few, low, few)

  word_is : (k : ℕ) → k < 3 → word image (first + k) ≡ inode_word image i (3 + k)
  word_is k few =
      ap (word image) (place_is k few)
      ∙ sym (slot_word-at image block (8 * (i % 64) + (3 + k)) (λ none. stands.present (same_leaf ∙ none)))
      ∙ sym (inode_word-at image i (3 + k) (omega (arith, few)))

-- ---- an attribute

attribute_is : (image : Image) (i k w : ℕ) → 1 ≤ i → allows_attributes (version_of image) ≡ true → w ≡ inode_word image i (3 + k) → w < 2 ^ 64 → w ≡ attribute image i k
attribute_is image zero k w some version is low = absurd (omega (arith, some))
attribute_is image (suc i) k w some version is low = rw version (omega (arith, is, low))

among : (image : Image) (i k : ℕ) → k < 3 → attribute image i k ≡ slice_index (attributes_of image i) k
among image i zero few = refl
among image i (suc zero) few = refl
among image i (suc (suc zero)) few = refl
among image i (suc (suc (suc k))) few = absurd (omega (arith, few))

-- a word that was loaded is the attribute
pub loaded : (image : Image) (i first k w : ℕ) → ContentStandsAt image 0 (8 * i + 3) first → 1 ≤ i → k < 3 → allows_attributes (version_of image) ≡ true → w ≡ word image (first + k) → w < 2 ^ 64
    → w ≡ slice_index (attributes_of image i) k
loaded image i first k w stands some few version is low =
    attribute_is image i k w some version (is ∙ word_is image i first stands k few) low ∙ among image i k few
