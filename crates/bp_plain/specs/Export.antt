-- Export: the calls that build an abstract file tree from a tree that has only the root directory.
use Rattle.std.specs.Prelude.{◌≡◌, ◌≤◌, ◌<◌, ◌+◌, ◌-◌, ◌*◌, ◌/◌, ◌^◌, ◌==◌, ◌&&◌, ℕ, List, [], ◌∷◌, ◌++◌, length, take, drop, find, flat_map, Bool, true, false, None, Some, is_some, unwrap_or, nat_lt, slice_index, if◌then◌else◌}
use Rattle.std.specs.List.{filter, list_all, range_with_len}
use Rattle.std.specs.FinMap.{get, entries, keys}
use Rattle.bp_limits.specs.Limits.{attributes, block_size}
use Rattle.bp_limits.specs.CallLimits.{allows_attributes, greatest_size, max_path}
use Rattle.bp_layout.specs.Paths.{Attributes, rest_below, same_path, Path, Node, no_attributes}
use Rattle.bp_layout.specs.Paths.Node.{dir, file}
use Rattle.bp_plain.specs.Calls.{Call}
use Rattle.bp_plain.specs.Calls.Call.{create, link, mkdir, set_attribute, write, truncate}
use Rattle.bp_plain.specs.Calls.Answer.{done}
use Rattle.bp_plain.specs.Plain.{attributes_at, is_root_path, listing, plain}
use Rattle.bp_plain.specs.PlainTree.{FileTree, IsFileTree, PathMap, is_one}

-- the path text of a path: `/` and a name, for each name of the path
abbrev pub path_text : Path → List ℕ
path_text path = flat_map (λ name. 47 ∷ name) path

-- ---- the calls that make a file

-- A file's bytes are cut into stretches of one block each; the last stretch may be shorter. `stretches` is the number
-- of stretches, `stretch` is stretch number k.
abbrev pub stretches : List ℕ → ℕ
stretches content = (length content + (block_size - 1)) / block_size

abbrev pub stretch : List ℕ → ℕ → List ℕ
stretch content k = take block_size (drop (block_size * k) content)

abbrev pub is_zeros : List ℕ → Bool
is_zeros bytes = list_all (λ b. b == 0) bytes

-- the call that writes stretch number k whole; no call if all its bytes are zero
abbrev pub write_of : List ℕ → List ℕ → ℕ → List Call
write_of text content k =
    if is_zeros (stretch content k) then [] else write text (block_size * k) (stretch content k) ∷ []

abbrev pub writes_of : List ℕ → List ℕ → List Call
writes_of text content = flat_map (write_of text content) (range_with_len 0 (stretches content))

-- the call that sets the size after the writes; needed only if the last stretch is all zeros and so not written
abbrev pub size_call : List ℕ → List ℕ → List Call
size_call text content =
    if nat_lt 0 (length content) && is_zeros (stretch content (stretches content - 1))
    then truncate text (length content) ∷ [] else []

-- ---- the calls that make a tree

-- the call that sets attribute k; no call if it is 0
abbrev pub set_of : List ℕ → Attributes → ℕ → List Call
set_of text values k =
    if slice_index values k == 0 then [] else set_attribute text k (slice_index values k) ∷ []

abbrev pub sets_of : List ℕ → Attributes → List Call
sets_of text values = flat_map (set_of text values) (range_with_len 0 attributes)

abbrev pub calls_for : List ℕ → Node → List Call
calls_for text (dir values) = mkdir text ∷ sets_of text values
calls_for text (file values content) =
    create text ∷ writes_of text content ++ size_call text content ++ sets_of text values

-- the first path of the file at this path, in the order of paths; for a directory, the path itself
abbrev pub first_of : PathMap → Path → Path
first_of map path = unwrap_or (find (is_one map.one path) (keys map.nodes)) path

-- The text of the root directory: one byte, `/`.
abbrev pub root_text : List ℕ
root_text = 47 ∷ []

-- The calls for one entry of the tree: for the root, which exists from the start, those that set its attributes; for
-- each later path of a file, a link to its first path.
abbrev pub calls_at : PathMap → Path × Node → List Call
calls_at map entry =
    if is_root_path entry.0 then sets_of root_text (attributes_at map.nodes [])
    else if same_path (first_of map entry.0) entry.0 then calls_for (path_text entry.0) entry.1
    else link (path_text (first_of map entry.0)) (path_text entry.0) ∷ []

-- All calls of the export. Paths come in their order, so each path comes after that of its parent directory.
abbrev pub export_calls : FileTree → List Call
export_calls tree = flat_map (calls_at tree.now) (entries tree.now.nodes)

-- ---- the effect of these calls

-- each call succeeds and returns `done`, and the last one leaves the tree `after`
abbrev pub AllDone : FileTree → List Call → FileTree → Type 0
AllDone before [] after = before ≡ after
AllDone before (call ∷ calls) after =
    (middle : FileTree) × (plain before call ≡ (done, middle)) × AllDone middle calls after

-- a tree with its snapshot removed
abbrev pub without_snapshot : FileTree → FileTree
without_snapshot tree = record tree { snap = None }

-- the text of each path has at most `max_path` bytes, so a call can name it
abbrev pub HasShortPaths : FileTree → Type 0
HasShortPaths tree =
    (path : Path) (node : Node) → get tree.now.nodes path ≡ Some node → length (path_text path) ≤ max_path

-- No file or directory has attributes.
abbrev pub HasNoAttributes : PathMap → Type 0
HasNoAttributes map = (path : Path) → attributes_at map.nodes path ≡ no_attributes

-- The condition of an export: a call can name each path, no file is larger than the tree's version allows, each node has
-- as many attributes as an inode, and there are none except 0 in a version without them.
pub record IsExportable (tree : FileTree) : Type 0 where
  pub is_tree : IsFileTree tree
  pub spelled : HasShortPaths tree
  pub sized : (path : Path) (values : Attributes) (content : List ℕ)
      → get tree.now.nodes path ≡ Some (file values content) → length content ≤ greatest_size tree.version
  pub attributed : (path : Path) → length (attributes_at tree.now.nodes path) ≡ attributes
  pub early : allows_attributes tree.version ≡ false → HasNoAttributes tree.now

-- Names and file contents are lists of bytes, numbers below 256. Attributes are below 2 ^ 64.
abbrev pub are_bytes : List ℕ → Bool
are_bytes xs = list_all (λ b. nat_lt b 256) xs

pub record IsOfBytes (tree : FileTree) : Type 0 where
  pub names : (path : Path) (node : Node) → get tree.now.nodes path ≡ Some node → list_all are_bytes path ≡ true
  pub contents : (path : Path) (values : Attributes) (content : List ℕ)
      → get tree.now.nodes path ≡ Some (file values content) → are_bytes content ≡ true
  pub attributes : (path : Path) (k : ℕ) → slice_index (attributes_at tree.now.nodes path) k < 2 ^ 64

-- ---- a tree in the order of a directory walk

-- the entries at a path and below it, in the order of paths
abbrev pub entries_below : PathMap → Path → List (Path × Node)
entries_below map path = filter (λ entry. is_some (rest_below path entry.0)) (entries map.nodes)

-- The entries at and below a directory are its own entry and then, name by name, those at and below each name in it.
pub record IsWalked (map : PathMap) : Type 0 where
  pub all : entries_below map [] ≡ entries map.nodes
  pub at_file : (path : Path) (values : Attributes) (content : List ℕ)
      → get map.nodes path ≡ Some (file values content)
      → entries_below map path ≡ (path, file values content) ∷ []
  pub at_dir : (path : Path) (values : Attributes) → get map.nodes path ≡ Some (dir values)
      → entries_below map path ≡ (path, dir values)
      ∷ flat_map (λ entry. entries_below map (path ++ entry.1 ∷ [])) (listing map.nodes path)
