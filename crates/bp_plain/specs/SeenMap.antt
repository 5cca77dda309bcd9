-- The abstract view, in contracts, of the maps and the tree that the program holds.
use Rattle.std.specs.Prelude.{◌≡◌, ◌<◌, ℕ, Some}
use Rattle.bp_layout.specs.Paths.{Path}
use Rattle.bp_plain.specs.declared.trees.Plain.TheInside.{Inside as KeptTree}
use Rattle.bp_plain.specs.declared.trees.maps.FileMap.TheInside.{Inside}
use Rattle.bp_plain.specs.Numbered.{map_of, number_at, plain_nodes}
use Rattle.bp_plain.specs.PlainTree.{FileTree, PathMap}
use Rattle.bp_plain.specs.SeenTree.{IsRooted}

abbrev pub map_seen : Inside → PathMap
map_seen map = map_of map.files

-- The root is a directory, and so is the parent of each other path. The number of each file is below the next number to
-- be given.
pub record IsKept (map : Inside) : Type 0 where
  pub above : IsRooted (plain_nodes map.files)
  pub fresh : (path : Path) (id : ℕ) → number_at map.files path ≡ Some id → id < map.next

abbrev pub tree_seen : KeptTree → FileTree
tree_seen tree = record { version = tree.version; now = tree.current; snap = tree.snapshot }
