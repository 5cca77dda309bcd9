-- The entries of a leaf, and the places of their words.
use Rattle.std.specs.Prelude.{◌≡◌, ℕ, ◌+◌, ◌*◌, ◌/◌, ◌%◌, ◌<◌, ◌≤◌}
use Rattle.bp_limits.specs.Limits.{entry_size, entry_words, block_entries, block_words}
use Rattle.bp_layout.specs.Words.{Image, height_of}
use Rattle.bp_layout.specs.Tree.{node, IsSound}
use Rattle.bp_read.specs.declared.leaf.Leaf.{Leaf}

-- consecutive slots from the first of a leaf on, and the block with their entries
pub record IsLeaf (image : Image) (leaf : Leaf) : Type 0 where
  pub sound : IsSound image leaf.tree.root leaf.tree.size
  pub starts : leaf.first % block_entries ≡ 0
  pub some : 0 < leaf.count
  pub few : leaf.count ≤ block_entries
  pub live : leaf.first + leaf.count ≤ leaf.tree.size / entry_size
  pub block : leaf.block ≡ node image leaf.tree.root (height_of leaf.tree.root) (leaf.first / block_entries)

-- the place in the region of a word of the entry in a slot
abbrev pub word_place_in : Image → ℕ → ℕ → ℕ → ℕ
word_place_in image root slot field =
    block_words * node image root (height_of root) ((entry_words * slot + field) / block_words)
    + (entry_words * slot + field) % block_words
