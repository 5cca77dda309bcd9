-- The existing live leaves of a tree: not null, and below no null pointer.
use Rattle.std.specs.Prelude.{◌≡◌, ◌≢◌, ℕ, ◌+◌, ◌*◌, ◌/◌, ◌%◌, ◌<◌, ◌≤◌, List, slice_index}
use Rattle.bp_limits.specs.Limits.{block_size, block_words}
use Rattle.bp_layout.specs.Words.{Image, height_of}
use Rattle.bp_layout.specs.Tree.{content_word, node}

-- each live leaf from one on is null
abbrev pub HasNoLeafFrom : Image → ℕ → ℕ → ℕ → Type 0
HasNoLeafFrom image root size from =
    (leaf : ℕ) → from ≤ leaf → block_size * leaf < size → node image root (height_of root) leaf ≡ 0

-- the leaf is live and not null, and the leaves from `from` on before it are null
pub record IsNextLeaf (image : Image) (root size from leaf : ℕ) : Type 0 where
  pub beyond : from ≤ leaf
  pub live : block_size * leaf < size
  pub present : node image root (height_of root) leaf ≢ 0
  pub first : (other : ℕ) → from ≤ other → other < leaf → node image root (height_of root) other ≡ 0

-- these are the content words of a leaf
abbrev pub AreLeafWords : Image → ℕ → ℕ → List ℕ → Type 0
AreLeafWords image root leaf words =
    (i : ℕ) → i < block_words → slice_index words i ≡ content_word image root (block_words * leaf + i)

-- the place in the region of a content word
abbrev pub content_place : Image → ℕ → ℕ → ℕ
content_place image root index =
    block_words * node image root (height_of root) (index / block_words) + index % block_words
