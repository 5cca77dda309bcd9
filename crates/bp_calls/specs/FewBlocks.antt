-- Upper bounds on the number of blocks that a change takes. They are generous: their use is that a sum of such counts
-- stays below 2 ^ 32.
use Rattle.std.specs.Prelude.{ℕ, ◌+◌, ◌*◌}
use Rattle.bp_limits.specs.Limits.{max_height}

-- The bound for one more entry or one more leaf of a tree: at most three nodes of each level above the leaves, and a
-- few leaves.
abbrev pub most_for_leaf : ℕ
most_for_leaf = 18 + 3 * max_height

-- The bound for the bytes of one write: at most 257 leaves and the nodes above them, new or copied.
abbrev pub most_for_write : ℕ
most_for_write = 320
