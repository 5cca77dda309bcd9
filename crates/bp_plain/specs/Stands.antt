-- The abstract tree that an image represents.
use Rattle.std.specs.Prelude.{◌≡◌, true, false, Option, None, Some}
use Rattle.std.specs.FinMap.{get}
use Rattle.bp_layout.specs.Words.{Image}
use Rattle.bp_layout.specs.Lookup.{find_one, shown}
use Rattle.bp_layout.specs.Paths.{Path}
use Rattle.bp_layout.specs.Trees.{has_snapshot, snapshot_of}
use Rattle.bp_layout.specs.WellFormed.{IsWellFormed}
use Rattle.bp_plain.specs.PlainTree.{FileTree, PathMap, is_one}
use Rattle.bp_layout.specs.Formatted.{version_of}

-- The first tree of the image is well formed. The map has the same node at each path as the image, and two paths are
-- one file in the map exactly if they lead to one file in the image.
pub record Shows (image : Image) (map : PathMap) : Type 0 where
  pub well_formed : IsWellFormed image
  pub shows : (path : Path) → get map.nodes path ≡ shown image path
  pub one : (p q : Path) → is_one map.one p q ≡ find_one image p q

-- exactly one map is that of the image's first tree
abbrev pub ShowsOne : Image → Type 0
ShowsOne image = (map : PathMap) × Shows image map × ((other : PathMap) → Shows image other → map ≡ other)

-- the image has no snapshot, or a snapshot with this map
abbrev pub ShowsSnapshot : Image → Option PathMap → Type 0
ShowsSnapshot image None = has_snapshot image ≡ false
ShowsSnapshot image (Some map) = (has_snapshot image ≡ true) × Shows (snapshot_of image) map

pub record Stands (image : Image) (tree : FileTree) : Type 0 where
  pub version : tree.version ≡ version_of image
  pub now : Shows image tree.now
  pub snap : ShowsSnapshot image tree.snap

-- the image represents exactly one abstract tree
abbrev pub StandsForOne : Image → Type 0
StandsForOne image = (tree : FileTree) × Stands image tree × ((other : FileTree) → Stands image other → tree ≡ other)
