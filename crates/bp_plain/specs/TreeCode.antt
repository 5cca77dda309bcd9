-- Codes of abstract trees: encodings that make a tree a value of the program's ghost state.
use Rattle.std.specs.Prelude.{◌≡◌, ℕ, List, Option, None, Some, refl}
use Rattle.std.specs.Coded.{Coded, code_by, coded_ℕ, coded_list, coded_option, coded×}
use Rattle.std.specs.FinMap as finite
use Rattle.std.specs.FinSet as set
use Rattle.bp_layout.specs.Paths.{Attributes, Node, Path}
use Rattle.bp_layout.specs.Paths.Node.{dir, file}
use Rattle.bp_limits.specs.Numbers.{version_numbered}
use Rattle.bp_limits.specs.declared.version.Version.{Version}
use Rattle.bp_limits.specs.declared.version.Version.TheVariants as marked
use Rattle.bp_plain.specs.Numbered.{Numbered, NumberedFiles}
use Rattle.bp_plain.specs.Numbered.Numbered.{directory, numbered_file}
use Rattle.bp_plain.specs.PlainTree.{FileTree, Nodes, Aliases, PathMap}

abbrev pub attributes_code : Coded Attributes
attributes_code = coded_list coded_ℕ

-- the attributes of a node, and the bytes of a file
abbrev pub node_parts : Node → Attributes × Option (List ℕ)
node_parts (dir attributes) = (attributes, None)
node_parts (file attributes content) = (attributes, Some content)

abbrev pub node_with : Attributes → Option (List ℕ) → Node
node_with attributes None = dir attributes
node_with attributes (Some content) = file attributes content

abbrev pub node_with-is : (node : Node) → node_with (node_parts node).0 (node_parts node).1 ≡ node
node_with-is (dir attributes) = refl
node_with-is (file attributes content) = refl

abbrev pub node_code : Coded Node
node_code = code_by (Attributes × Option (List ℕ)) (coded× attributes_code (coded_option (coded_list coded_ℕ)))
    node_parts (λ parts. node_with parts.0 parts.1) node_with-is

-- the attributes of a node, and the number and the bytes of a file
abbrev pub numbered_parts : Numbered → Attributes × Option (ℕ × List ℕ)
numbered_parts (directory attributes) = (attributes, None)
numbered_parts (numbered_file id attributes content) = (attributes, Some (id, content))

abbrev pub numbered_with : Attributes → Option (ℕ × List ℕ) → Numbered
numbered_with attributes None = directory attributes
numbered_with attributes (Some parts) = numbered_file parts.0 attributes parts.1

abbrev pub numbered_with-is : (node : Numbered) → numbered_with (numbered_parts node).0 (numbered_parts node).1 ≡ node
numbered_with-is (directory attributes) = refl
numbered_with-is (numbered_file id attributes content) = refl

abbrev pub numbered_node_code : Coded Numbered
numbered_node_code =
    code_by (Attributes × Option (ℕ × List ℕ))
    (coded× attributes_code (coded_option (coded× coded_ℕ (coded_list coded_ℕ))))
    numbered_parts (λ parts. numbered_with parts.0 parts.1) numbered_with-is

abbrev pub path_code : Coded Path
path_code = coded_list (coded_list coded_ℕ)

abbrev pub nodes_code : Coded Nodes
nodes_code = finite.code path_code node_code

abbrev pub numbered_code : Coded NumberedFiles
numbered_code = finite.code path_code numbered_node_code

abbrev pub one_code : Coded Aliases
one_code = set.code (coded× path_code path_code)

abbrev pub map_code : Coded PathMap
map_code = code_by (Nodes × Aliases) (coded× nodes_code one_code) (λ map. (map.nodes, map.one))
    (λ parts. record { nodes = parts.0; one = parts.1 }) (λ _. refl)

abbrev pub version_number : Version → ℕ
version_number marked.One = 1
version_number marked.Two = 2
version_number marked.Three = 3

abbrev pub version_numbered-is : (version : Version) → version_numbered (version_number version) ≡ version
version_numbered-is marked.One = refl
version_numbered-is marked.Two = refl
version_numbered-is marked.Three = refl

abbrev pub version_code : Coded Version
version_code = code_by ℕ coded_ℕ version_number version_numbered version_numbered-is

abbrev pub tree_code : Coded FileTree
tree_code = code_by (Version × (PathMap × Option PathMap)) (coded× version_code (coded× map_code (coded_option map_code)))
    (λ tree. (tree.version, (tree.now, tree.snap)))
    (λ parts. record { version = parts.0; now = parts.1.0; snap = parts.1.1 }) (λ _. refl)
