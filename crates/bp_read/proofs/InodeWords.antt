-- Where the words of an inode stand.
use Rattle.std.proofs.Common.{◌≡◌, ◌≢◌, ℕ, zero, suc, ◌+◌, ◌*◌, ◌/◌, ◌%◌, ◌<◌, ◌≤◌, List, length, slice_index, slice_range, refl, sym, ◌∙◌, ap, ap₂, arith}
use Rattle.bp_layout.specs.Words.{Image, block_count, height_of, slot_word, word}
use Rattle.bp_layout.specs.Tree.{node, IsSound, IsLivePointer}
use Rattle.bp_layout.specs.Inode.{inode_word, inode_count, kind_of, root_of, size_of}
use Rattle.bp_layout.proofs.TreeLaws.{slot_word-at, tree_word-suc}
use Rattle.bp_layout.proofs.LoadedWords.{loaded_word}

-- the leaf with an inode that is there is live
pub leaf_pointer : (image : Image) (i : ℕ) → i < inode_count image → IsLivePointer (root_of image 0) (size_of image 0) (height_of (root_of image 0)) (i / 64)
leaf_pointer image i there = record { level = 0; height = omega arith; live = omega arith }

-- an image with an inode in a sound inode file has a superblock
pub long_enough : (image : Image) (i : ℕ) → IsSound image (root_of image 0) (size_of image 0) → i < inode_count image → 4 ≤ length image
long_enough image i sound there =
    let below : node image (root_of image 0) (height_of (root_of image 0)) (i / 64) < block_count image = sound.in_range _ _ (leaf_pointer image i there) in
    omega (arith, below)

pub inode_word-at : (image : Image) (i f : ℕ) → f < 8 →
    inode_word image i f ≡ slot_word image (node image (root_of image 0) (height_of (root_of image 0)) (i / 64)) (8 * (i % 64) + f)
inode_word-at image i f within =
    let leaf : (8 * i + f) / 512 ≡ i / 64 = omega arith in
    let at : (8 * i + f) % 512 ≡ 8 * (i % 64) + f = omega arith in
    tree_word-suc image (root_of image 0) (height_of (root_of image 0)) (8 * i + f)
    ∙ ap₂ (λ l s. slot_word image (node image (root_of image 0) (height_of (root_of image 0)) l) s) leaf at

-- the fields of an inode are its words
pub kind_word-of : (image : Image) (i : ℕ) → 1 ≤ i → kind_of image i ≡ inode_word image i 0
kind_word-of image zero some = absurd (omega (arith, some))
kind_word-of image (suc i) some = refl

pub root_word-of : (image : Image) (i : ℕ) → 1 ≤ i → root_of image i ≡ inode_word image i 1
root_word-of image zero some = absurd (omega (arith, some))
root_word-of image (suc i) some = refl

pub size_word-of : (image : Image) (i : ℕ) → 1 ≤ i → size_of image i ≡ inode_word image i 2
size_word-of image zero some = absurd (omega (arith, some))
size_word-of image (suc i) some = refl

-- an inode that has a kind stands in a block
in_block : (image : Image) (i : ℕ) → 1 ≤ i → 1 ≤ kind_of image i → node image (root_of image 0) (height_of (root_of image 0)) (i / 64) ≢ 0
in_block image i some least none =
    let word : inode_word image i 0 ≡ 0 = inode_word-at image i 0 (omega arith) ∙ ap (λ b. slot_word image b (8 * (i % 64) + 0)) none in
    omega (arith, word, kind_word-of image i some, least)

-- so the block that a walk finds for it is not null
pub found_block : (image : Image) (i root block : ℕ) → 1 ≤ i → 1 ≤ kind_of image i → root ≡ root_of image 0 → block ≡ node image root (height_of root) (i / 64) → block ≢ 0
found_block image i root block some least root_is block_is none =
    let node_is : block ≡ node image (root_of image 0) (height_of (root_of image 0)) (i / 64) = block_is ∙ ap (λ r. node image r (height_of r) (i / 64)) root_is in
    in_block image i some least (sym node_is ∙ none)

-- a word of those that were loaded from the place of an inode that has a kind
pub loaded_field : (image : Image) (i f root block first : ℕ) (words : List ℕ) → f < 3 → 1 ≤ i → 1 ≤ kind_of image i → root ≡ root_of image 0 →
    block ≡ node image root (height_of root) (i / 64) → first ≡ 512 * block + 8 * (i % 64) → words ≡ slice_range image first (first + 3) → slice_index words f ≡ inode_word image i f
loaded_field image i f root block first words within some least root_is block_is first_is words_are =
    let node_is : block ≡ node image (root_of image 0) (height_of (root_of image 0)) (i / 64) = block_is ∙ ap (λ r. node image r (height_of r) (i / 64)) root_is in
    let at : first + f ≡ 512 * block + (8 * (i % 64) + f) = omega (arith, first_is) in
    loaded_word image words first 3 words_are f within ∙ ap (word image) at
    ∙ sym (slot_word-at image block (8 * (i % 64) + f) (λ none. in_block image i some least (sym node_is ∙ none)))
    ∙ ap (λ b. slot_word image b (8 * (i % 64) + f)) node_is
    ∙ sym (inode_word-at image i f (omega (arith, within)))
