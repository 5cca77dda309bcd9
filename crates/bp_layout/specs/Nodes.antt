-- The nodes of a tree by their levels, which do not change when the tree gets higher, and the nodes that a tree lacks
-- for bytes past its size.
use Rattle.std.specs.Prelude.{ℕ, suc, ◌-◌, ◌*◌, ◌/◌, max, List, [], ◌++◌, map, filter, flat_map, Bool, not, ◌&&◌, ◌==◌, nat_lt, nat_le, find, unwrap_or, if◌then◌else◌}
use Rattle.std.specs.List.{range_with_len}
use Rattle.bp_layout.specs.Words.{Image, height_of, block_of}
use Rattle.bp_layout.specs.Tree.{node, span}
use Rattle.bp_limits.specs.Limits.{max_height}

-- a node of a tree; it covers the bytes from `index * span level` on, `span level` bytes
pub record TreeNode : Type 0 where
  pub level : ℕ
  pub index : ℕ

-- the node is live, and neither the node nor one above it is null
abbrev pub is_present : Image → ℕ → ℕ → TreeNode → Bool
is_present image root size n =
    nat_le n.level (height_of root) && nat_lt (n.index * span n.level) size
    && not (node image root (height_of root - n.level) n.index == 0)

-- the least height at which a tree can hold this many bytes
abbrev pub height_for : ℕ → ℕ
height_for bytes = unwrap_or (find (λ height. nat_le bytes (span height)) (range_with_len 0 max_height)) max_height

-- the height of a tree with this root and size once it has all bytes below `to`, never less than before unless empty
abbrev pub height_with : ℕ → ℕ → ℕ → ℕ
height_with root size to = if size == 0 then height_for to else max (height_of root) (height_for to)

-- the new nodes above the old root, if the tree gets higher; the old root's block remains in place
abbrev pub raised_nodes : ℕ → ℕ → ℕ → List TreeNode
raised_nodes root size to =
    if nat_lt 0 size && not (block_of root == 0)
    then map (λ level. record { level = level; index = 0 }) (range_with_len (suc (height_of root))
    (height_with root size to - height_of root))
    else []

-- the nodes at one level that cover the bytes from `from` to the byte before `to`
abbrev pub nodes_over : ℕ → ℕ → ℕ → List TreeNode
nodes_over from to level = map (λ index. record { level = level; index = index })
    (range_with_len (from / span level) (suc ((to - 1) / span level - from / span level)))

-- The nodes to build so that each byte from `from` to the byte before `to` has a block. If there are no such bytes,
-- only the nodes above the old root.
abbrev pub nodes_for : Image → ℕ → ℕ → ℕ → ℕ → List TreeNode
nodes_for image root size from to =
    if nat_lt from to
    then filter (λ n. not (is_present image root size n)) (flat_map (nodes_over from to)
    (range_with_len 0 (suc (height_with root size to))))
    ++ filter (λ n. nat_le (span n.level) from) (raised_nodes root size to)
    else raised_nodes root size to
