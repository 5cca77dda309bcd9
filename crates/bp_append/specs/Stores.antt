-- The greatest number of stores of a preparation.
use Rattle.std.specs.Prelude.{ℕ, zero, suc, ◌+◌, ◌*◌, ◌/◌, min, Bool, ◌&&◌, ◌==◌, nat_le, if◌then◌else◌}
use Rattle.bp_limits.specs.Limits.{block_size, block_words, max_height}

-- whether the bytes start at the size and are all in one leaf
abbrev pub is_one_leaf : ℕ → ℕ → ℕ → Bool
is_one_leaf size from to = size == from && nat_le to (from / block_size * block_size + block_size)

-- whether the bytes start at the size and are no more than a node one level above the leaves covers
abbrev pub is_near : ℕ → ℕ → ℕ → Bool
is_near size from to = size == from && nat_le to (from + block_size * block_words)

-- the stores to a leaf and to a node on each level above it; only the lowest node gets many pointers, the others one
-- each
abbrev pub near_stores : ℕ → ℕ
near_stores zero = block_words
near_stores (suc height) = block_words + block_words + height

-- The stores to existing blocks of a tree of a height: one block on each level gets stores, to its words past the size.
-- If the bytes are in one leaf, each node above it gets one pointer; if they are near, each node above the lowest one
-- does.
abbrev pub stores_past_end : ℕ → ℕ → ℕ → ℕ → ℕ
stores_past_end size from to height =
    if is_one_leaf size from to then block_words + height
    else (if is_near size from to then near_stores height else block_words * suc height)

-- the greatest number of stores of a preparation: to existing blocks past the size, to `needed` new blocks, and two
-- links
abbrev pub prep_stores : ℕ → ℕ → ℕ → ℕ → ℕ
prep_stores size from to needed = block_words * needed + stores_past_end size from to max_height + 2

-- The room in the log that the stores past the size require. A node that gets few stores may require room for all its
-- words before it counts them. So this is one block more if there are few stores, and at most the words of all these
-- blocks.
abbrev pub room_past_end : ℕ → ℕ → ℕ → ℕ → ℕ
room_past_end size from to height = min (block_words * suc height) (stores_past_end size from to height + block_words)
