-- Which words a change touches, and how many blocks it needs.
use Rattle.std.specs.Prelude.{ℕ, suc, ◌+◌, ◌-◌, ◌*◌, ◌/◌, min, max, List, [], ◌∷◌, ◌++◌, length, take, drop, map, filter, flat_map, Bool, not, ◌&&◌, ◌||◌, ◌==◌, nat_lt, nat_le, bytes_eq, Option, None, Some, if◌then◌else◌, fold}
use Rattle.std.specs.List.{range_with_len, list_any}
use Rattle.bp_limits.specs.Limits.{attribute_field, block_size, block_words, entry_size, entry_words, size_field}
use Rattle.bp_layout.specs.Words.{Image, height_of}
use Rattle.bp_layout.specs.Nodes.{TreeNode, is_present, height_with, nodes_for}
use Rattle.bp_layout.specs.Inode.{root_of, size_of}
use Rattle.bp_layout.specs.Directory.{empty_slot}
use Rattle.bp_layout.specs.WordPaths.{WordPath, inode_path, tree_path}

-- the inode that a new directory entry names
pub data Entrant : Type 0 where
  -- the least free inode
  taken : ℕ → Entrant
  -- the first inode of a new leaf of the inode file, if no inode is free
  grown : Entrant
  -- an inode that has a name already
  linked : Entrant

-- a range of bytes below the size of an inode's tree: the inode, the first byte and the length in bytes
pub record Stretch : Type 0 where
  pub inode : ℕ
  pub offset : ℕ
  pub len : ℕ

-- a change of an image, in terms of inodes and slots
pub data Change : Type 0 where
  -- inode, offset, length
  writes : ℕ → ℕ → ℕ → Change
  -- inode, size
  resizes : ℕ → ℕ → Change
  -- directory; the inode that its new entry names
  enters : ℕ → Entrant → Change
  -- directory, slot
  leaves : ℕ → ℕ → Change
  -- the source's directory and slot, the target's directory and slot
  replaces : ℕ → ℕ → ℕ → ℕ → Change
  -- the source's directory and slot, the target's directory
  moves : ℕ → ℕ → ℕ → Change
  -- directory, slot, length of the new name
  respells : ℕ → ℕ → ℕ → Change
  -- ranges of bytes of one or several files
  overwrites : List Stretch → Change
  -- inode, attribute
  sets : ℕ → ℕ → Change

-- ---- preparation

-- The bytes past the end of a tree for which the tree is prepared: from byte `from` to the byte before `to`. If `from`
-- and `to` are equal, only the height of the tree is raised.
pub record Beyond : Type 0 where
  pub tree : ℕ
  pub from : ℕ
  pub to : ℕ

abbrev pub new_entry : Image → ℕ → Option ℕ → List Beyond
new_entry image i None = record { tree = i; from = size_of image i; to = size_of image i + entry_size } ∷ []
new_entry image i (Some slot) = []

abbrev pub beyond : Image → Change → List Beyond
beyond image (writes i offset len) = if nat_lt (size_of image i) (offset + len)
    then record { tree = i; from = max offset (size_of image i); to = offset + len } ∷ [] else []
beyond image (resizes i size) =
    if nat_lt (size_of image i) size then record { tree = i; from = size; to = size } ∷ [] else []
beyond image (enters i entrant) = new_entry image i (empty_slot image i)
beyond image (moves i s j) = new_entry image j (empty_slot image j)
beyond image _ = []

-- the inode file grows by one leaf if a new entry needs an inode and none is free
abbrev pub new_inodes : Image → Change → List Beyond
new_inodes image (enters i grown) = record { tree = 0; from = size_of image 0; to = size_of image 0 + block_size } ∷ []
new_inodes image _ = []

-- the nodes that are built for some bytes, each with its tree
abbrev pub prepared_for : Image → Beyond → List (ℕ × TreeNode)
prepared_for image b =
    map (λ n. (b.tree, n)) (nodes_for image (root_of image b.tree) (size_of image b.tree) b.from b.to)

-- the nodes that are built for the tree that the change grows
abbrev pub preparation : Image → Change → List (ℕ × TreeNode)
preparation image change = flat_map (prepared_for image) (beyond image change)

-- the nodes that are built for the inode file
abbrev pub growth : Image → Change → List (ℕ × TreeNode)
growth image change = flat_map (prepared_for image) (new_inodes image change)

-- ---- touched words

-- the height of a tree after the preparation
abbrev pub height_after : Image → Change → ℕ → ℕ
height_after image change t =
    fold (λ h b. if b.tree == t then height_with (root_of image t) (size_of image t) b.to else h)
    (height_of (root_of image t)) (beyond image change ++ new_inodes image change)

-- the paths of content words and of entry words if the trees have these heights
abbrev pub content_path_at : (ℕ → ℕ) → ℕ → ℕ → WordPath
content_path_at heights t index = tree_path (heights 0) t (suc (heights t)) index

abbrev pub entry_path_at : (ℕ → ℕ) → ℕ → ℕ → ℕ → WordPath
entry_path_at heights i slot f = content_path_at heights i (entry_words * slot + f)

abbrev pub entered_at : (ℕ → ℕ) → ℕ → Option ℕ → WordPath
entered_at heights i None = inode_path (heights 0) i size_field
entered_at heights i (Some slot) = entry_path_at heights i slot 0

abbrev pub stretch_paths : (ℕ → ℕ) → Stretch → List WordPath
stretch_paths heights s =
    if s.len == 0 then [] else map (content_path_at heights s.inode)
    (range_with_len (s.offset / 8) (suc ((s.offset + s.len - 1) / 8 - s.offset / 8)))

abbrev pub touched_at : (ℕ → ℕ) → Image → Change → List WordPath
touched_at heights image (writes i offset len) =
    map (content_path_at heights i)
    (if nat_lt offset (size_of image i) then range_with_len (offset / 8)
    (suc ((min (offset + len) (size_of image i) - 1) / 8 - offset / 8)) else [])
    ++ (if nat_lt (size_of image i) (offset + len) then inode_path (heights 0) i size_field ∷ [] else [])
touched_at heights image (resizes i size) = inode_path (heights 0) i size_field ∷ []
touched_at heights image (enters i entrant) = entered_at heights i (empty_slot image i) ∷ []
touched_at heights image (leaves i s) = entry_path_at heights i s 0 ∷ []
touched_at heights image (replaces i s j r) = entry_path_at heights i s 0 ∷ entry_path_at heights j r 0 ∷ []
touched_at heights image (moves i s j) =
    entered_at heights j (empty_slot image j) ∷ entry_path_at heights i s 0 ∷ []
touched_at heights image (respells i s len) =
    map (entry_path_at heights i s) (range_with_len 1 (suc ((len + 7) / 8)))
touched_at heights image (overwrites stretches) = flat_map (stretch_paths heights) stretches
touched_at heights image (sets i k) = inode_path (heights 0) i (attribute_field + k) ∷ []

-- the paths of words of inodes and of content after the preparation
abbrev pub inode_word_path : Image → Change → ℕ → ℕ → WordPath
inode_word_path image change i f = inode_path (height_after image change 0) i f

abbrev pub content_path : Image → Change → ℕ → ℕ → WordPath
content_path image change t index = content_path_at (height_after image change) t index

abbrev pub entry_path : Image → Change → ℕ → ℕ → ℕ → WordPath
entry_path image change i slot f = content_path image change i (entry_words * slot + f)

abbrev pub entered : Image → Change → ℕ → Option ℕ → WordPath
entered image change i slot = entered_at (height_after image change) i slot

abbrev pub touched : Image → Change → List WordPath
touched image change = touched_at (height_after image change) image change

-- ---- cover

abbrev pub is_prefix : WordPath → WordPath → Bool
is_prefix prefix path = bytes_eq prefix (take (length prefix) path)

abbrev pub path_number : List ℕ → ℕ
path_number ds = fold (λ n d. block_words * n + d) 0 ds

-- the tree and the node to which the pointer at a path leads, if the inode file and the other trees have these heights
abbrev pub pointed : (ℕ → ℕ) → WordPath → ℕ × TreeNode
pointed heights path =
    if nat_le (length path) (heights 0)
    then (0, record { level = heights 0 - length path; index = path_number path })
    else (
      path_number (take (suc (heights 0)) path) / 8,
      record {
        level = heights (path_number (take (suc (heights 0)) path) / 8) - (length path - suc (heights 0));
        index = path_number (drop (suc (heights 0)) path);
      },
    )

abbrev pub same_node : ℕ × TreeNode → ℕ × TreeNode → Bool
same_node n m = (n.0 == m.0) && (n.1.level == m.1.level) && (n.1.index == m.1.index)

-- The node exists after the preparation: it existed before, or the preparation builds it.
abbrev pub is_there : Image → Change → ℕ × TreeNode → Bool
is_there image change n =
    is_present image (root_of image n.0) (size_of image n.0) n.1 || list_any (same_node n)
    (preparation image change) || list_any (same_node n) (growth image change)

-- the node to which the pointer at a path leads exists after the preparation
abbrev pub is_there_after : Image → Change → WordPath → Bool
is_there_after image change path = is_there image change (pointed (height_after image change) path)

-- The longest prefix of a path, after a part that exists, such that none of its proper prefixes leads to a null
-- pointer. `there` states of a path whether the node to which its pointer leads exists.
abbrev pub existing_from : (WordPath → Bool) → WordPath → WordPath → WordPath
existing_from there here [] = here
existing_from there here (slot ∷ path) = if there here then existing_from there (here ++ slot ∷ []) path else here

abbrev pub common : WordPath → WordPath → WordPath
common [] other = []
common (slot ∷ path) [] = []
common (slot ∷ path) (also ∷ other) = if slot == also then slot ∷ common path other else []

abbrev pub common_all : List WordPath → WordPath
common_all [] = []
common_all (path ∷ paths) = fold common path paths

-- the longest path that exists and is a prefix of each of the paths
abbrev pub cover_of : (WordPath → Bool) → List WordPath → WordPath
cover_of there paths = existing_from there [] (common_all paths)

abbrev pub cover : Image → Change → WordPath
cover image change = cover_of (is_there_after image change) (touched image change)

-- ---- copies

-- the proper prefixes of a path that are at least `shortest` long
abbrev pub prefixes_from : ℕ → WordPath → List WordPath
prefixes_from shortest path = map (λ n. take n path) (range_with_len shortest (length path - shortest))

-- The proper prefixes of several paths, at least `shortest` long. Each counts once, at the first path of which it is a
-- prefix.
abbrev pub prefixes_of : ℕ → List WordPath → List WordPath → List WordPath
prefixes_of shortest earlier [] = []
prefixes_of shortest earlier (path ∷ paths) =
    filter (λ prefix. not (list_any (is_prefix prefix) earlier)) (prefixes_from shortest path)
    ++ prefixes_of shortest (path ∷ earlier) paths

-- the pointers whose blocks are copied: those between the cover and the words of the paths
abbrev pub copies_of : (WordPath → Bool) → List WordPath → List WordPath
copies_of there paths = prefixes_of (length (cover_of there paths)) [] paths

abbrev pub copied : Image → Change → List WordPath
copied image change = copies_of (is_there_after image change) (touched image change)

-- ---- need: how many blocks a change takes, without the copies of snapshot blocks

-- the blocks for bytes at or past a size
abbrev pub prep_count : Image → Change → ℕ
prep_count image change = length (preparation image change)

-- the blocks for the leaf by which the inode file grows
abbrev pub growth_count : Image → Change → ℕ
growth_count image change = length (growth image change)

-- the blocks for the copies
abbrev pub copy_count : Image → Change → ℕ
copy_count image change = length (copied image change)

abbrev pub need : Image → Change → ℕ
need image change = prep_count image change + growth_count image change + copy_count image change
