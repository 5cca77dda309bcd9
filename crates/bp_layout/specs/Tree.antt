-- A tree under a root word: its contents, which of its words are live, and when it is sound.
use Rattle.std.specs.Prelude.{◌≡◌, ◌≢◌, ℕ, zero, suc, ◌+◌, ◌*◌, ◌/◌, ◌%◌, ◌^◌, ◌<◌, ◌≤◌, List, map}
use Rattle.std.specs.List.{range_with_len}
use Rattle.bp_layout.specs.Words.{Image, block_count, block_of, height_of, slot_word, byte_of}
use Rattle.bp_limits.specs.Limits.{block_size, block_words, max_height}

-- Word number `index` at a depth of the tree. At depth 0 is only the root word. A word at a depth up to the height
-- points to a block, and the 512 words of that block are one level deeper. So the words one level deeper than the
-- height are the content.
unfoldable pub tree_word : Image → ℕ → ℕ → ℕ → ℕ
tree_word image root zero index = root
tree_word image root (suc depth) index =
    slot_word image (block_of (tree_word image root depth (index / block_words))) (index % block_words)

-- the block to which a word of the tree points, given by depth and number; 0 if the word, or one above it, is null
abbrev pub node : Image → ℕ → ℕ → ℕ → ℕ
node image root depth index = block_of (tree_word image root depth index)

-- the place in the image of a word of the tree, given the place of the root word
abbrev pub place_of : Image → ℕ → ℕ → ℕ → ℕ → ℕ
place_of image at root zero index = at
place_of image at root (suc depth) index =
    block_words * node image root depth (index / block_words) + index % block_words

abbrev pub content_word : Image → ℕ → ℕ → ℕ
content_word image root index = tree_word image root (suc (height_of root)) index

abbrev pub byte : Image → ℕ → ℕ → ℕ
byte image root offset = byte_of (content_word image root (offset / 8)) (offset % 8)

-- the bytes of the tree below its size
abbrev pub content : Image → ℕ → ℕ → List ℕ
content image root size = map (byte image root) (range_with_len 0 size)

-- A word `rank` levels above the content words covers 8 * 512 ^ rank bytes.
abbrev pub covered : ℕ → ℕ
covered rank = 8 * block_words ^ rank

-- A node covers what its 512 words cover: 4096 bytes at level 0, the level of the leaves.
abbrev pub span : ℕ → ℕ
span level = covered (suc level)

-- The word at this depth and number is live: the first byte that it covers is below the size.
pub record IsLiveWord (root size depth index : ℕ) : Type 0 where
  pub rank : ℕ
  pub height : depth + rank ≡ suc (height_of root)
  pub live : index * covered rank < size

-- The pointer at this depth and number is live: the first byte that it covers is below the size. Pointers are above the
-- content words.
pub record IsLivePointer (root size depth index : ℕ) : Type 0 where
  pub level : ℕ
  pub height : depth + level ≡ height_of root
  pub live : index * covered (suc level) < size

-- the tree has this block: a live pointer leads to it
pub record HasBlock (image : Image) (root size block : ℕ) : Type 0 where
  pub depth : ℕ
  pub index : ℕ
  pub pointer : IsLivePointer root size depth index
  pub named : node image root depth index ≡ block
  pub not_null : block ≢ 0

-- the condition that every reader of a tree requires
pub record IsSound (image : Image) (root size : ℕ) : Type 0 where
  pub low : 0 < size → height_of root ≤ max_height
  pub root_bits : 0 < size → root / 8 % 512 ≡ 0
  pub pointer_bits : (d k : ℕ) → IsLivePointer root size (suc d) k → tree_word image root (suc d) k % block_size ≡ 0
  pub in_range : (d k : ℕ) → IsLivePointer root size d k → node image root d k < block_count image
  pub once : (d k e l : ℕ) → IsLivePointer root size d k → IsLivePointer root size e l →
      node image root d k ≢ 0 → node image root d k ≡ node image root e l → (d ≡ e) × (k ≡ l)
  pub fits : size ≤ covered (suc (height_of root))

-- no live pointer is null
abbrev pub IsFull : Image → ℕ → ℕ → Type 0
IsFull image root size = (d k : ℕ) → IsLivePointer root size d k → node image root d k ≢ 0
