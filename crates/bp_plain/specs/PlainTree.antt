-- The abstract file tree: the node at each path, and which paths are one file.
use Rattle.std.specs.Prelude.{◌≡◌, ℕ, List, [], ◌∷◌, ◌++◌, Bool, true, Option, None, Some}
use Rattle.std.specs.Ordering.{nat_cmp, ordering_then}
use Rattle.std.specs.declared.cmp.Ordering.{Ordering}
use Rattle.std.specs.FinMap.{FinMap, get}
use Rattle.std.specs.FinMap as finite
use Rattle.std.specs.FinSet.{FinSet, contains}
use Rattle.std.specs.FinSet as set
use Rattle.std.specs.Cmp.Lexicographic.{slice_cmp}
use Rattle.bp_layout.specs.Paths.{Attributes, IsName, Name, Path, Node, no_attributes}
use Rattle.bp_layout.specs.Paths.Node.{dir, file}
use Rattle.bp_limits.specs.declared.version.Version.{Version}
use Rattle.bp_limits.specs.CallLimits.{allows_snapshot}

-- the order of paths: name by name, and names byte by byte
abbrev pub path_cmp : Path → Path → Ordering
path_cmp = slice_cmp (slice_cmp nat_cmp)

-- the order of pairs of paths: by the first path, then by the second
abbrev pub pair_cmp : Path × Path → Path × Path → Ordering
pair_cmp a b = ordering_then (path_cmp a.0 b.0) (path_cmp a.1 b.1)

-- the node at each path
abbrev pub Nodes : Type 0
Nodes = FinMap path_cmp Node

-- the pairs of paths that are one file; each path of a file is a pair with itself
abbrev pub Aliases : Type 0
Aliases = FinSet pair_cmp

abbrev pub is_one : Aliases → Path → Path → Bool
is_one one p q = contains one (p, q)

-- the nodes at all paths, with the pairs of paths that are one file
pub record PathMap : Type 0 where
  pub nodes : Nodes
  pub one : Aliases

-- The state of a file system: the version of its format, the map of its paths now, and the map of its snapshot if it
-- has one.
pub record FileTree : Type 0 where
  pub version : Version
  pub now : PathMap
  pub snap : Option PathMap

-- a directory is at this path
pub record IsDirAt (nodes : Nodes) (path : Path) : Type 0 where
  pub attributes : Attributes
  pub is : get nodes path ≡ Some (dir attributes)

-- a file with these bytes is at both paths, with the same attributes
pub record IsFileAtBoth (nodes : Nodes) (p q : Path) : Type 0 where
  pub attributes : Attributes
  pub bytes : List ℕ
  pub one : get nodes p ≡ Some (file attributes bytes)
  pub other : get nodes q ≡ Some (file attributes bytes)

-- A map that is a file tree: the root and each path's parent are directories. The pairs are an equivalence relation on
-- the paths of files, and the two paths of a pair have the same bytes and attributes.
pub record IsPathMap (map : PathMap) : Type 0 where
  pub root : IsDirAt map.nodes []
  pub parents : (path : Path) (name : Name) (node : Node) → get map.nodes (path ++ name ∷ []) ≡ Some node
      → IsDirAt map.nodes path
  pub names : (path : Path) (name : Name) (node : Node) → get map.nodes (path ++ name ∷ []) ≡ Some node → IsName name
  pub itself : (p : Path) (attributes : Attributes) (bytes : List ℕ) → get map.nodes p ≡ Some (file attributes bytes)
      → is_one map.one p p ≡ true
  pub back : (p q : Path) → is_one map.one p q ≡ true → is_one map.one q p ≡ true
  pub chain : (p q r : Path) → is_one map.one p q ≡ true → is_one map.one q r ≡ true → is_one map.one p r ≡ true
  pub files : (p q : Path) → is_one map.one p q ≡ true → IsFileAtBoth map.nodes p q

pub record IsFileTree (tree : FileTree) : Type 0 where
  pub now : IsPathMap tree.now
  pub snap : (map : PathMap) → tree.snap ≡ Some map → (allows_snapshot tree.version ≡ true) × IsPathMap map

-- the map that has only the root directory
abbrev pub empty_map : PathMap
empty_map = record { nodes = finite.insert finite.empty [] (dir no_attributes); one = set.empty }

abbrev pub empty_tree : Version → FileTree
empty_tree version = record { version = version; now = empty_map; snap = None }
