-- The null leaves among the live leaves of a tree. A leaf below a null pointer is null too.
use Rattle.std.specs.Prelude.{◌≡◌, ◌≢◌, ℕ, ◌*◌, ◌<◌}
use Rattle.bp_limits.specs.Limits.{block_size}
use Rattle.bp_layout.specs.Words.{Image, height_of}
use Rattle.bp_layout.specs.Tree.{node}

-- no live leaf is null
abbrev pub HasNoNullLeaf : Image → ℕ → ℕ → Type 0
HasNoNullLeaf image root size = (leaf : ℕ) → block_size * leaf < size → node image root (height_of root) leaf ≢ 0

-- the leaf is the first one that is live and null
abbrev pub IsFirstNullLeaf : Image → ℕ → ℕ → ℕ → Type 0
IsFirstNullLeaf image root size leaf =
    (block_size * leaf < size) × (node image root (height_of root) leaf ≡ 0)
    × ((other : ℕ) → other < leaf → node image root (height_of root) other ≢ 0)
