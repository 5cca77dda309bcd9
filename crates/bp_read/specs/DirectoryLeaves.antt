-- The entries of a leaf of a directory.
use Rattle.std.specs.Prelude.{ℕ, not, ◌==◌, List, Option, length, filter, find}
use Rattle.std.specs.List.{range_with_len}
use Rattle.bp_layout.specs.Words.{Image}
use Rattle.bp_layout.specs.Directory.{ino_in, is_named_in}
use Rattle.bp_layout.specs.Paths.{Name}
use Rattle.bp_read.specs.declared.leaf.Leaf.{Leaf}

-- the slots of the leaf, in order
abbrev pub leaf_slots : Leaf → List ℕ
leaf_slots leaf = range_with_len leaf.first leaf.count

-- the first slot with the name
abbrev pub named_in_leaf : Image → Leaf → Name → Option ℕ
named_in_leaf image leaf name = find (is_named_in image leaf.tree.root name) (leaf_slots leaf)

-- the first empty slot
abbrev pub empty_in_leaf : Image → Leaf → Option ℕ
empty_in_leaf image leaf = find (λ slot. ino_in image leaf.tree.root slot == 0) (leaf_slots leaf)

-- the number of entries that name an inode
abbrev pub names_in_leaf : Image → Leaf → ℕ
names_in_leaf image leaf = length (filter (λ slot. not (ino_in image leaf.tree.root slot == 0)) (leaf_slots leaf))
