-- The words past the size of a tree.
use Rattle.std.specs.Prelude.{◌≡◌, ◌≢◌, ℕ, suc, ◌+◌, ◌*◌, ◌/◌, ◌%◌, ◌<◌}
use Rattle.bp_limits.specs.Limits.{block_words}
use Rattle.bp_layout.specs.Words.{Image, word, height_of, byte_of}
use Rattle.bp_layout.specs.Tree.{node, IsLivePointer}

-- A place past the size of a tree: a word of an existing node that is no live pointer and lies past the size, or the
-- word in which the size lies if the value keeps that word's live bytes.
pub record IsPastEnd (image : Image) (root size place value : ℕ) : Type 0 where
  pub depth : ℕ
  pub index : ℕ
  pub parent : IsLivePointer root size depth (index / block_words)
  pub present : node image root depth (index / block_words) ≢ 0
  pub at : block_words * node image root depth (index / block_words) + index % block_words ≡ place
  pub no_pointer : IsLivePointer root size (suc depth) index → ⊥
  pub ends : depth ≡ height_of root → size < 8 * index + 8
  pub kept : (c : ℕ) → depth ≡ height_of root → c < 8 → 8 * index + c < size →
      byte_of value c ≡ byte_of (word image place) c
