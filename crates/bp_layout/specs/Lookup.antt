-- What an image has at each path.
use Rattle.std.specs.Prelude.{ℕ, [], ◌∷◌, ◌==◌, Bool, false, Option, None, Some, option_map, option_and_then, if◌then◌else◌}
use Rattle.bp_limits.specs.Limits.{root_ino, file_kind}
use Rattle.bp_layout.specs.Words.{Image}
use Rattle.bp_layout.specs.Tree.{content}
use Rattle.bp_layout.specs.Inode.{attributes_of, kind_of, root_of, size_of}
use Rattle.bp_layout.specs.Directory.{lookup_in}
use Rattle.bp_layout.specs.Paths.{Path, Node}
use Rattle.bp_layout.specs.Paths.Node.{dir, file}

-- the inode to which a path leads, starting from inode i; `lookup` starts from the root directory
abbrev pub lookup_from : Image → ℕ → Path → Option ℕ
lookup_from image i [] = Some i
lookup_from image i (name ∷ path) = option_and_then (λ j. lookup_from image j path) (lookup_in image i name)

abbrev pub lookup : Image → Path → Option ℕ
lookup image path = lookup_from image root_ino path

abbrev pub node_of : Image → ℕ → Node
node_of image i = if kind_of image i == file_kind
    then file (attributes_of image i) (content image (root_of image i) (size_of image i))
    else dir (attributes_of image i)

-- the node at a path: a directory, or a file with its bytes, and the attributes; none if nothing is there
abbrev pub shown : Image → Path → Option Node
shown image path = option_map (node_of image) (lookup image path)

-- ---- which paths lead to one file

-- the inode if it is a file, else none
abbrev pub if_file : Image → ℕ → Option ℕ
if_file image i = if kind_of image i == file_kind then Some i else None

-- the inode of the file at a path
abbrev pub file_at : Image → Path → Option ℕ
file_at image path = option_and_then (if_file image) (lookup image path)

-- both values exist and are equal
abbrev pub are_one : Option ℕ → Option ℕ → Bool
are_one (Some i) (Some j) = i == j
are_one _ _ = false

-- two paths lead to one file
abbrev pub find_one : Image → Path → Path → Bool
find_one image p q = are_one (file_at image p) (file_at image q)
