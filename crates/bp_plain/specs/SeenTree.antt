-- The abstract view, in contracts, of the nodes and paths that the program holds.
use Rattle.std.specs.Prelude.{◌≡◌, ◌++◌, ℕ, List, [], ◌∷◌, map, true, Option, None, Some, if◌then◌else◌}
use Rattle.std.specs.List.{list_all}
use Rattle.std.specs.Global.{Vec}
use Rattle.std.specs.FinMap.{from_sorted, get}
use Rattle.std.specs.FinMap.Entries.{is_sorted}
use Rattle.arrayvec.specs.ArrayVec.{ArrayVec}
use Rattle.bp_layout.specs.Paths.{Name, Path, Node, is_name}
use Rattle.bp_plain.specs.declared.trees.entries.Node.{Node as Kept}
use Rattle.bp_plain.specs.declared.trees.entries.Node.TheVariants as kept
use Rattle.bp_plain.specs.declared.trees.entries.Files.TheInside.{Inside}
use Rattle.bp_plain.specs.Calls.{Call, Answer}
use Rattle.bp_plain.specs.Numbered.{Numbered, NumberedFiles, plain_node}
use Rattle.bp_plain.specs.Numbered.Numbered.{directory, numbered_file}
use Rattle.bp_plain.specs.Plain.{answer_or}
use Rattle.bp_plain.specs.PlainTree.{FileTree, IsDirAt, Nodes, path_cmp}

abbrev pub names_of : List (ArrayVec ℕ) → Path
names_of names = map (λ name. name.items) names

abbrev pub numbered : Kept → Numbered
numbered (kept.Dir attributes) = directory attributes
numbered (kept.File id attributes content) = numbered_file id attributes content.items

abbrev pub node_seen : Kept → Node
node_seen node = plain_node (numbered node)

abbrev pub entry_kept : Vec (ArrayVec ℕ) × Kept → Path × Numbered
entry_kept entry = (names_of entry.0.items, numbered entry.1)

abbrev pub entries_kept : Inside → List (Path × Numbered)
entries_kept files = map entry_kept files.nodes.entries

abbrev pub files_seen : Inside → NumberedFiles
files_seen files = from_sorted (entries_kept files)

abbrev pub AreInOrder : Inside → Type 0
AreInOrder files = is_sorted path_cmp (entries_kept files) ≡ true

-- the root is a directory, and so is the parent of each other path
pub record IsRooted (nodes : Nodes) : Type 0 where
  pub root : IsDirAt nodes []
  pub parents : (path : Path) (name : Name) (node : Node) → get nodes (path ++ name ∷ []) ≡ Some node
      → IsDirAt nodes path

-- no path of the nodes is this path with one more name
pub record HasNoneBelow (nodes : Nodes) (path : Path) : Type 0 where
  pub none : (name : Name) → get nodes (path ++ name ∷ []) ≡ None

-- the answer and the new tree of a call that is not refused
abbrev pub carried_out : FileTree → Call → Answer × FileTree
carried_out tree call = answer_or tree call None

-- these names with the parts appended, if each part is a valid name
abbrev pub all_names : Path → List Name → Option Path
all_names before parts = if list_all is_name parts then Some (before ++ parts) else None
