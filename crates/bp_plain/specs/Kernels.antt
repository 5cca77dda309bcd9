-- Which pairs of paths are one file, given by labels: two paths are one file if both have a label and the labels are
-- equal. In an image the label of a path is the inode of its file; in the program it is the file's number.
use Rattle.std.specs.Prelude.{◌≡◌, ℕ, List, [], ◌∷◌, ◌++◌, Option, None, Some, if◌then◌else◌}
use Rattle.std.specs.List.{filter_map}
use Rattle.std.specs.FinSet.{from_list}
use Rattle.bp_layout.specs.Lookup.{are_one}
use Rattle.bp_layout.specs.Paths.{Path}
use Rattle.bp_plain.specs.PlainTree.{Aliases, is_one}

pub record IsKernel (label : Path → Option ℕ) (one : Aliases) : Type 0 where
  pub each : (p q : Path) → is_one one p q ≡ are_one (label p) (label q)

-- the pair of two paths if their labels are equal; `row` and `rows` collect these pairs over lists of paths
abbrev pub pair_if : (Path → Option ℕ) → Path → Path → Option (Path × Path)
pair_if label p q = if are_one (label p) (label q) then Some (p, q) else None

abbrev pub row : (Path → Option ℕ) → Path → List Path → List (Path × Path)
row label p paths = filter_map (pair_if label p) paths

abbrev pub rows : (Path → Option ℕ) → List Path → List Path → List (Path × Path)
rows label [] paths = []
rows label (p ∷ ps) paths = row label p paths ++ rows label ps paths

-- all pairs of equal labels among these paths
abbrev pub kernel_from : (Path → Option ℕ) → List Path → Aliases
kernel_from label paths = from_list (rows label paths paths)
