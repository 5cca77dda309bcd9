-- The abstract tree as the program `Plain` holds it: at each path a directory, or a file with a number, which is the
-- same at each path of the file.
use Rattle.std.specs.Prelude.{ℕ, List, [], map, Bool, false, ◌==◌, Option, None, Some, if◌then◌else◌}
use Rattle.std.specs.List.{filter_map}
use Rattle.std.specs.FinMap as finite
use Rattle.std.specs.FinMap.{FinMap, entries, from_sorted, get}
use Rattle.bp_layout.specs.Paths.{Attributes, Path, Node, no_attributes}
use Rattle.bp_layout.specs.Paths.Node.{dir, file}
use Rattle.bp_plain.specs.Kernels.{kernel_from}
use Rattle.bp_plain.specs.PlainTree.{Nodes, PathMap, path_cmp}

pub data Numbered : Type 0 where
  directory : Attributes → Numbered
  -- its number, its attributes and its bytes
  numbered_file : ℕ → Attributes → List ℕ → Numbered

abbrev pub NumberedFiles : Type 0
NumberedFiles = FinMap path_cmp Numbered

-- the files of a tree that has only the root directory
abbrev pub root_alone : NumberedFiles
root_alone = finite.insert finite.empty [] (directory no_attributes)

-- the node without its number
abbrev pub plain_node : Numbered → Node
plain_node (directory attributes) = dir attributes
plain_node (numbered_file id attributes content) = file attributes content

abbrev pub plain_entry : Path × Numbered → Path × Node
plain_entry entry = (entry.0, plain_node entry.1)

abbrev pub plain_nodes : NumberedFiles → Nodes
plain_nodes files = from_sorted (map plain_entry (entries files))

-- the number of a node if it is a file; `number_at` gives the number of the file at a path
abbrev pub number_in : Option Numbered → Option ℕ
number_in (Some (numbered_file id attributes content)) = Some id
number_in _ = None

abbrev pub number_at : NumberedFiles → Path → Option ℕ
number_at files path = number_in (get files path)

abbrev pub has_number : ℕ → Numbered → Bool
has_number id (directory attributes) = false
has_number id (numbered_file other attributes content) = other == id

-- the paths of the entries that have this number
abbrev pub path_if : ℕ → Path × Numbered → Option Path
path_if id entry = if has_number id entry.1 then Some entry.0 else None

abbrev pub paths_numbered : ℕ → List (Path × Numbered) → List Path
paths_numbered id entries = filter_map (path_if id) entries

-- the map of paths without the numbers: two paths are one file if their numbers are equal
abbrev pub map_of : NumberedFiles → PathMap
map_of files = record { nodes = plain_nodes files; one = kernel_from (number_at files) (finite.keys files) }
