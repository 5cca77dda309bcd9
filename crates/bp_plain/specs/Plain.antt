-- The abstract file tree, and the answer and the effect of each call on it: first the node at each path, then which
-- paths are one file, and last the calls.
use Rattle.std.specs.Prelude.{ℕ, ◌+◌, ◌-◌, List, [], ◌∷◌, ◌++◌, map, length, take, drop, replicate, Bool, true, false, not, ◌&&◌, ◌||◌, ◌==◌, nat_lt, Option, None, Some, is_some, is_none, option_map, unwrap_or, slice_index, slice_set, if◌then◌else◌}
use Rattle.std.specs.List.{filter_map, list_any, sum_by}
use Rattle.std.specs.FinMap.{FinMap, get, insert, remove, entries, from_entries}
use Rattle.std.specs.FinSet as set
use Rattle.bp_layout.specs.Paths.{Attributes, Name, Path, Node, no_attributes, same_path, rest_below, parse}
use Rattle.bp_layout.specs.Paths.Node.{dir, file}
use Rattle.bp_limits.specs.CallLimits.{allows_attributes, greatest_size, greatest_write, allows_snapshot, max_batch}
use Rattle.bp_plain.specs.PlainTree.{FileTree, Nodes, Aliases, PathMap, is_one, path_cmp}
use Rattle.bp_layout.specs.declared.fields.Kind.{Kind}
use Rattle.bp_layout.specs.declared.fields.Kind.TheVariants.{File, Dir}
use Rattle.bp_plain.specs.Calls.{Call, Piece, Refusal, Answer}
use Rattle.bp_plain.specs.Calls.Call.{create, mkdir, unlink, rmdir, list, stat, read, write, truncate, rename, link, links, upgrade, upgrade_to_three, snap, unsnap, snap_list, snap_stat, snap_read, batch, attribute, set_attribute}
use Rattle.bp_plain.specs.Calls.Refusal.{bad_path, not_found, not_dir, is_dir, exists, not_empty, into_self, is_root, too_long, too_big, no_snap, has_snap, old_version, past_end}
use Rattle.bp_plain.specs.Calls.Answer.{done, bytes, file_of, dir_of, names, links_of, attribute_of, refused}
use Rattle.bp_limits.specs.declared.version.Version.TheVariants.{Two, Three}

-- ---- paths

abbrev pub parent_of : Path → Path
parent_of [] = []
parent_of (name ∷ []) = []
parent_of (name ∷ other ∷ path) = name ∷ parent_of (other ∷ path)

-- ---- the node at a path

abbrev pub is_a_dir : Option Node → Bool
is_a_dir (Some (dir attributes)) = true
is_a_dir _ = false

abbrev pub bytes_in : Option Node → List ℕ
bytes_in (Some (file attributes content)) = content
bytes_in _ = []

abbrev pub attributes_in : Option Node → Attributes
attributes_in None = no_attributes
attributes_in (Some (dir attributes)) = attributes
attributes_in (Some (file attributes content)) = attributes

abbrev pub is_dir_at : Nodes → Path → Bool
is_dir_at nodes path = is_a_dir (get nodes path)

abbrev pub bytes_at : Nodes → Path → List ℕ
bytes_at nodes path = bytes_in (get nodes path)

abbrev pub attributes_at : Nodes → Path → Attributes
attributes_at nodes path = attributes_in (get nodes path)

abbrev pub kind_of_node : Node → Kind
kind_of_node (dir attributes) = Dir
kind_of_node (file attributes content) = File

abbrev pub only_name : Option Path → Option Name
only_name (Some (name ∷ [])) = Some name
only_name _ = None

-- the kind and name of an entry if it is an entry of this directory itself, not of one below it
abbrev pub listed_in : Path → Path × Node → Option (Kind × Name)
listed_in path entry = option_map (λ name. (kind_of_node entry.1, name)) (only_name (rest_below path entry.0))

-- the names in a directory with their kinds, in the order of their bytes
abbrev pub listing : Nodes → Path → List (Kind × Name)
listing nodes path = filter_map (listed_in path) (entries nodes)

abbrev pub is_empty_dir : Nodes → Path → Bool
is_empty_dir nodes path = length (listing nodes path) == 0

-- ---- refusals

abbrev pub when : Bool → Refusal → Option Refusal
when holds refusal = if holds then Some refusal else None

abbrev pub first : List (Option Refusal) → Option Refusal
first [] = None
first (None ∷ rest) = first rest
first (Some refusal ∷ rest) = Some refusal

abbrev pub is_root_path : Path → Bool
is_root_path path = same_path path []

-- the refusal at the first name of the path that is looked up in a file (`not_dir`) or is missing (`not_found`)
abbrev pub first_refusal_from : Nodes → Path → Path → Option Refusal
first_refusal_from nodes here [] = None
first_refusal_from nodes here (name ∷ path) =
    first (when (not (is_dir_at nodes here)) not_dir ∷ when (is_none (get nodes (here ++ name ∷ []))) not_found
    ∷ first_refusal_from nodes (here ++ name ∷ []) path ∷ [])

abbrev pub walk : Nodes → Path → Option Refusal
walk nodes path = first_refusal_from nodes [] path

-- the refusal of the walk to a path's parent directory, or `not_dir` if the parent is a file
abbrev pub walk_parent : Nodes → Path → Option Refusal
walk_parent nodes path = first (walk nodes (parent_of path) ∷ when (not (is_dir_at nodes (parent_of path))) not_dir ∷ [])

abbrev pub on_parsed : Option Path → (Path → Option Refusal) → Option Refusal
on_parsed None refusals = Some bad_path
on_parsed (Some path) refusals = refusals path

abbrev pub on_path : List ℕ → (Path → Option Refusal) → Option Refusal
on_path text refusals = on_parsed (parse text) refusals

-- ---- refused moves

abbrev pub moves_below : Path → Path → Bool
moves_below p q = not (same_path p q) && is_some (rest_below p q)

abbrev pub moves_file_onto_dir : Nodes → Path → Path → Bool
moves_file_onto_dir nodes p q = not (is_dir_at nodes p) && is_dir_at nodes q

abbrev pub moves_dir_onto_file : Nodes → Path → Path → Bool
moves_dir_onto_file nodes p q = is_dir_at nodes p && is_some (get nodes q) && not (is_dir_at nodes q)

-- a directory would replace a directory that is not empty
abbrev pub moves_onto_names : Nodes → Path → Path → Bool
moves_onto_names nodes p q = not (same_path p q) && is_dir_at nodes p && is_dir_at nodes q && not (is_empty_dir nodes q)

-- the first reason, in this order, why the node at path p cannot move to path q
abbrev pub move_refusal : Nodes → Path → Path → Option Refusal
move_refusal nodes p q = first (
    when (is_root_path p) is_root ∷ when (is_root_path q) is_root ∷ walk nodes p ∷ walk_parent nodes q
    ∷ when (moves_below p q) into_self
    ∷ when (moves_file_onto_dir nodes p q) is_dir
    ∷ when (moves_dir_onto_file nodes p q) not_dir
    ∷ when (moves_onto_names nodes p q) not_empty ∷ [])

-- ---- nodes with a path added, removed, or with other bytes

-- the nodes with this node at the path, in place of any node there
abbrev pub with_node : Nodes → Path → Node → Nodes
with_node nodes path node = insert nodes path node

-- the nodes without the node at the path
abbrev pub with_nothing_at : Nodes → Path → Nodes
with_nothing_at nodes path = remove nodes path

-- a path after the move of p to q: a path at or below p gets q in place of the prefix p; others do not change
abbrev pub moved_path : Path → Path → Path → Path
moved_path p q path = unwrap_or (option_map (λ rest. q ++ rest) (rest_below p path)) path

-- an entry after the move of p to q; none if the entry was at q itself
abbrev pub moved_entry : {A : Type 0} → Path → Path → Path × A → Option (Path × A)
moved_entry p q entry = if same_path entry.0 q then None else Some (moved_path p q entry.0, entry.1)

-- the entries after the move of p to q: the entries at and below p move, and the old node at q is removed
abbrev pub moved : {A : Type 0} → Path → Path → FinMap path_cmp A → FinMap path_cmp A
moved p q nodes = from_entries (filter_map (moved_entry p q) (entries nodes))

-- the nodes with this node at each of the paths
abbrev pub with_node_at : List Path → Node → Nodes → Nodes
with_node_at [] node nodes = nodes
with_node_at (path ∷ paths) node nodes = with_node (with_node_at paths node nodes) path node

-- ---- which paths are one file

-- the paths of the file at a path, the path itself among them
abbrev pub paths_of : Aliases → Path → List Path
paths_of one path = filter_map (λ pair. if same_path pair.0 path then Some pair.1 else None) (set.items one)

-- the number of paths of the file at a path
abbrev pub path_count : Aliases → Path → ℕ
path_count one path = set.len (set.from_list {R = path_cmp} (paths_of one path))

-- the pairs of a new path with itself, and with each of the others in both orders
abbrev pub pairs_with : Path → List Path → List (Path × Path)
pairs_with path [] = (path, path) ∷ []
pairs_with path (other ∷ others) = (path, other) ∷ (other, path) ∷ pairs_with path others

-- the pairs with a new file that has only this path; `linked`: with a new path of an existing file
abbrev pub alone : Aliases → Path → Aliases
alone one path = set.insert one (path, path)

abbrev pub linked : Aliases → Path → Path → Aliases
linked one path new = set.union one (set.from_list (pairs_with new (paths_of one path)))

-- the pairs without those of this path
abbrev pub without : Aliases → Path → Aliases
without one path = set.retain one (λ pair. not (same_path pair.0 path) && not (same_path pair.1 path))

-- a pair of paths after the move of p to q; none if either path is q
abbrev pub moved_pair : Path → Path → Path × Path → Option (Path × Path)
moved_pair p q pair = if same_path pair.0 q || same_path pair.1 q then None
    else Some (moved_path p q pair.0, moved_path p q pair.1)

abbrev pub moved_one : Path → Path → Aliases → Aliases
moved_one p q one = set.from_list (filter_map (moved_pair p q) (set.items one))

-- ---- the map after a change

abbrev pub with_file : PathMap → Path → PathMap
with_file map path = record { nodes = with_node map.nodes path (file no_attributes []); one = alone map.one path }

abbrev pub with_dir : PathMap → Path → PathMap
with_dir map path = record { nodes = with_node map.nodes path (dir no_attributes); one = map.one }

-- the map with the content of the file at a path replaced, at each path of the file
abbrev pub with_content : PathMap → Path → List ℕ → PathMap
with_content map path content = record {
  nodes = with_node_at (paths_of map.one path) (file (attributes_at map.nodes path) content) map.nodes;
  one = map.one;
}

-- the map with other attributes of the file or directory at a path, at each path of the file
abbrev pub with_attributes : PathMap → Path → Attributes → PathMap
with_attributes map path attributes = record {
  nodes = if is_dir_at map.nodes path then with_node map.nodes path (dir attributes)
      else with_node_at (paths_of map.one path) (file attributes (bytes_at map.nodes path)) map.nodes;
  one = map.one;
}

abbrev pub with_attribute : PathMap → Path → ℕ → ℕ → PathMap
with_attribute map path number value =
    with_attributes map path (slice_set (attributes_at map.nodes path) number value)

abbrev pub with_name : PathMap → Path → Path → PathMap
with_name map path new = record {
  nodes = with_node map.nodes new (file (attributes_at map.nodes path) (bytes_at map.nodes path));
  one = linked map.one path new;
}

abbrev pub with_nothing : PathMap → Path → PathMap
with_nothing map path = record { nodes = with_nothing_at map.nodes path; one = without map.one path }

abbrev pub with_moved : PathMap → Path → Path → PathMap
with_moved map p q = record { nodes = moved p q map.nodes; one = moved_one p q map.one }

-- ---- contents and maps after a call that is not refused

abbrev pub written : List ℕ → ℕ → List ℕ → List ℕ
written old offset new = take offset (old ++ replicate (offset - length old) 0) ++ new ++ drop (offset + length new) old

abbrev pub resized : List ℕ → ℕ → List ℕ
resized old size = take size (old ++ replicate (size - length old) 0)

abbrev pub path_named : List ℕ → Path
path_named text = unwrap_or (parse text) []

abbrev pub with_written : PathMap → Path → ℕ → List ℕ → PathMap
with_written map path offset new = with_content map path (written (bytes_at map.nodes path) offset new)

-- the map with the file at a path shortened to this size, or extended to it with zero bytes
abbrev pub with_size : PathMap → Path → ℕ → PathMap
with_size map path size = with_content map path (resized (bytes_at map.nodes path) size)

abbrev pub with_piece : PathMap → Piece → PathMap
with_piece map piece =
    if nat_lt 0 (length piece.bytes) then with_written map (path_named piece.path) piece.offset piece.bytes else map

-- the map after the pieces of a batch, written one after the other
abbrev pub with_pieces : PathMap → List Piece → PathMap
with_pieces map [] = map
with_pieces map (piece ∷ pieces) = with_pieces (with_piece map piece) pieces

-- ---- calls: refusals

abbrev pub new_refusal : Nodes → Path → Option Refusal
new_refusal nodes p =
    first (when (is_root_path p) exists ∷ walk_parent nodes p ∷ when (is_some (get nodes p)) exists ∷ [])

abbrev pub file_refusal : Nodes → Path → Option Refusal
file_refusal nodes p = first (walk nodes p ∷ when (is_dir_at nodes p) is_dir ∷ [])

abbrev pub dir_refusal : Nodes → Path → Option Refusal
dir_refusal nodes p = first (walk nodes p ∷ when (not (is_dir_at nodes p)) not_dir ∷ [])

-- the first refusal of a removal of the directory at this path
abbrev pub rmdir_refusal : Nodes → Path → Option Refusal
rmdir_refusal nodes p =
    first (when (is_root_path p) is_root ∷ dir_refusal nodes p ∷ when (not (is_empty_dir nodes p)) not_empty ∷ [])

-- the first refusal of one piece of a batch: its bytes must end within its file
abbrev pub piece_refusal : Nodes → Piece → Option Refusal
piece_refusal nodes piece = first (file_refusal nodes (path_named piece.path)
    ∷ when (nat_lt (length (bytes_at nodes (path_named piece.path))) (piece.offset + length piece.bytes)) past_end ∷ [])

-- a check on the snapshot's nodes, or `no_snap` if there is no snapshot
abbrev pub on_snap : Option PathMap → (Nodes → Option Refusal) → Option Refusal
on_snap None refusals = Some no_snap
on_snap (Some map) refusals = refusals map.nodes

-- the first refusal of a call on the attributes of the file or directory at a path
abbrev pub attribute_refusal : FileTree → Path → Option Refusal
attribute_refusal tree p = first (when (not (allows_attributes tree.version)) old_version ∷ walk tree.now.nodes p ∷ [])

-- the first refusal of a call in the order of the checks, or none if the call is carried out
abbrev pub refusal : FileTree → Call → Option Refusal
refusal tree (create text) = on_path text (new_refusal tree.now.nodes)
refusal tree (mkdir text) = on_path text (new_refusal tree.now.nodes)
refusal tree (read text offset len) = on_path text (file_refusal tree.now.nodes)
refusal tree (write text offset new) = on_path text (λ p. first (
    when (nat_lt (greatest_write tree.version) (length new)) too_long ∷ file_refusal tree.now.nodes p
    ∷ when (nat_lt 0 (length new) && nat_lt (greatest_size tree.version) (offset + length new)) too_big ∷ []))
refusal tree (truncate text size) = on_path text (λ p. first (
    file_refusal tree.now.nodes p ∷ when (nat_lt (greatest_size tree.version) size) too_big ∷ []))
refusal tree (unlink text) =
    on_path text (λ p. first (when (is_root_path p) is_dir ∷ file_refusal tree.now.nodes p ∷ []))
refusal tree (rmdir text) = on_path text (rmdir_refusal tree.now.nodes)
refusal tree (rename from to) = on_path from (λ p. on_path to (λ q. move_refusal tree.now.nodes p q))
refusal tree (list text) = on_path text (dir_refusal tree.now.nodes)
refusal tree (stat text) = on_path text (walk tree.now.nodes)
refusal tree (link from to) = on_path from (λ p. on_path to (λ q. first (
    file_refusal tree.now.nodes p ∷ new_refusal tree.now.nodes q ∷ [])))
refusal tree (links text) = on_path text (file_refusal tree.now.nodes)
refusal tree (attribute text number) = on_path text (attribute_refusal tree)
refusal tree (set_attribute text number value) = on_path text (attribute_refusal tree)
refusal tree upgrade = None
refusal tree upgrade_to_three = when (not (allows_attributes tree.version) && is_some tree.snap) has_snap
refusal tree snap = first (when (not (allows_snapshot tree.version)) old_version ∷ when (is_some tree.snap) has_snap ∷ [])
refusal tree unsnap = when (is_none tree.snap) no_snap
refusal tree (snap_list text) = on_path text (λ p. on_snap tree.snap (λ nodes. dir_refusal nodes p))
refusal tree (snap_stat text) = on_path text (λ p. on_snap tree.snap (λ nodes. walk nodes p))
refusal tree (snap_read text offset len) = on_path text (λ p. on_snap tree.snap (λ nodes. file_refusal nodes p))
refusal tree (batch pieces) = first (map (λ piece. when (is_none (parse piece.path)) bad_path) pieces
    ++ when (nat_lt max_batch (sum_by (λ piece. length piece.bytes) pieces)) too_long
    ∷ map (piece_refusal tree.now.nodes) pieces)

-- ---- calls: the tree after one that is not refused

abbrev pub with_now : FileTree → PathMap → FileTree
with_now tree map = record tree { now = map }

abbrev pub tree_after : FileTree → Call → FileTree
tree_after tree (create text) = with_now tree (with_file tree.now (path_named text))
tree_after tree (mkdir text) = with_now tree (with_dir tree.now (path_named text))
tree_after tree (write text offset new) = with_now tree (with_written tree.now (path_named text) offset new)
tree_after tree (truncate text size) = with_now tree
    (with_content tree.now (path_named text) (resized (bytes_at tree.now.nodes (path_named text)) size))
tree_after tree (unlink text) = with_now tree (with_nothing tree.now (path_named text))
tree_after tree (rmdir text) = with_now tree (with_nothing tree.now (path_named text))
tree_after tree (rename from to) = with_now tree (with_moved tree.now (path_named from) (path_named to))
tree_after tree (link from to) = with_now tree (with_name tree.now (path_named from) (path_named to))
tree_after tree (set_attribute text number value) = with_now tree (with_attribute tree.now (path_named text) number value)
tree_after tree upgrade = record tree { version = Two }
tree_after tree upgrade_to_three = record tree { version = Three }
tree_after tree snap = record tree { snap = Some tree.now }
tree_after tree unsnap = record tree { snap = None }
tree_after tree (batch pieces) = with_now tree (with_pieces tree.now pieces)
tree_after tree _ = tree

-- whether a call that is not refused changes the tree
abbrev pub changes : FileTree → Call → Bool
changes tree (create text) = true
changes tree (mkdir text) = true
changes tree (unlink text) = true
changes tree (rmdir text) = true
changes tree (write text offset new) = nat_lt 0 (length new)
changes tree (truncate text size) = not (size == length (bytes_at tree.now.nodes (path_named text)))
-- a rename between two paths of one file changes nothing
changes tree (rename from to) = not (same_path (path_named from) (path_named to))
    && not (is_one tree.now.one (path_named from) (path_named to))
changes tree (link from to) = true
changes tree (set_attribute text number value) = true
changes tree upgrade = not (allows_snapshot tree.version)
changes tree upgrade_to_three = not (allows_attributes tree.version)
changes tree snap = true
changes tree unsnap = true
changes tree (batch pieces) = list_any (λ piece. nat_lt 0 (length piece.bytes)) pieces
changes tree _ = false

abbrev pub is_changing : FileTree → Call → Bool
is_changing tree call = is_none (refusal tree call) && changes tree call

-- ---- calls: answers

abbrev pub read_answer : Nodes → List ℕ → ℕ → ℕ → Answer
read_answer nodes text offset len = bytes (take len (drop offset (bytes_at nodes (path_named text))))

abbrev pub stat_answer : Nodes → Path → Option Node → Answer
stat_answer nodes path (Some (file attributes content)) = file_of (length content)
stat_answer nodes path _ = dir_of (length (listing nodes path))

-- the nodes of the snapshot; no nodes if there is no snapshot
abbrev pub snap_nodes : Option PathMap → Nodes
snap_nodes None = from_entries []
snap_nodes (Some map) = map.nodes

abbrev pub answer : FileTree → Call → Answer
answer tree (read text offset len) = read_answer tree.now.nodes text offset len
answer tree (list text) = names (listing tree.now.nodes (path_named text))
answer tree (stat text) = stat_answer tree.now.nodes (path_named text) (get tree.now.nodes (path_named text))
answer tree (links text) = links_of (path_count tree.now.one (path_named text))
answer tree (attribute text number) = attribute_of (slice_index (attributes_at tree.now.nodes (path_named text)) number)
answer tree (snap_read text offset len) = read_answer (snap_nodes tree.snap) text offset len
answer tree (snap_list text) = names (listing (snap_nodes tree.snap) (path_named text))
answer tree (snap_stat text) =
    stat_answer (snap_nodes tree.snap) (path_named text) (get (snap_nodes tree.snap) (path_named text))
answer tree _ = done

abbrev pub answer_or : FileTree → Call → Option Refusal → Answer × FileTree
answer_or tree call (Some r) = (refused r, tree)
answer_or tree call None = (answer tree call, if changes tree call then tree_after tree call else tree)

abbrev pub plain : FileTree → Call → Answer × FileTree
plain tree call = answer_or tree call (refusal tree call)
