-- The pointers of a change that lead to blocks of the snapshot, to which no call stores. A change first replaces these
-- blocks by copies (copy-on-write for the snapshot, called thaw), and then stores only to blocks that are not in the
-- snapshot.
use Rattle.std.specs.Prelude.{◌≡◌, ℕ, suc, ◌+◌, ◌/◌, List, [], ◌∷◌, ◌++◌, length, filter, flat_map, Bool, false, not, ◌&&◌, nat_lt, Option, None, Some, if◌then◌else◌}
use Rattle.std.specs.List.{list_any}
use Rattle.bp_layout.specs.Words.{Image, word, block_of, height_of}
use Rattle.bp_layout.specs.Tree.{span}
use Rattle.bp_layout.specs.Nodes.{is_present}
use Rattle.bp_layout.specs.Inode.{root_of, size_of}
use Rattle.bp_layout.specs.Directory.{empty_slot}
use Rattle.bp_layout.specs.WordPaths.{WordPath, address, inode_path, tree_path}
use Rattle.bp_layout.specs.Need.{Beyond, Change, beyond, cover_of, entry_path_at, is_prefix, need, new_inodes, pointed, prefixes_from, touched_at}
use Rattle.bp_layout.specs.Need.Change.{enters, moves}
use Rattle.bp_layout.specs.Need.Entrant.{taken}

-- ---- targets: the words near which a change stores, at the present heights of the trees

abbrev pub heights_now : Image → ℕ → ℕ
heights_now image t = height_of (root_of image t)

-- the node to which the pointer at a path leads exists now
abbrev pub is_there_now : Image → WordPath → Bool
is_there_now image path =
    is_present image (root_of image (pointed (heights_now image) path).0)
    (size_of image (pointed (heights_now image) path).0) (pointed (heights_now image) path).1

abbrev pub cover_now : Image → Change → WordPath
cover_now image change = cover_of (is_there_now image) (touched_at (heights_now image) image change)

abbrev pub root_path_now : Image → ℕ → WordPath
root_path_now image t = tree_path (heights_now image 0) t 0 0

-- the word of the byte at the size; the root word if the tree is empty or too low for that byte
abbrev pub end_path_now : Image → ℕ → WordPath
end_path_now image t =
    if nat_lt 0 (size_of image t) && nat_lt (size_of image t) (span (heights_now image t))
    then tree_path (heights_now image 0) t (suc (heights_now image t)) (size_of image t / 8) else root_path_now image t

-- the targets of bytes that are added past the end of a tree
abbrev pub end_targets : Image → Beyond → List WordPath
end_targets image b = root_path_now image b.tree ∷ end_path_now image b.tree ∷ []

abbrev pub slot_target : Image → ℕ → Option ℕ → List WordPath
slot_target image i None = []
slot_target image i (Some slot) = entry_path_at (heights_now image) i slot 0 ∷ []

-- the inode that a new entry takes, and the empty entry to which a name moves from another directory
abbrev pub entry_targets : Image → Change → List WordPath
entry_targets image (enters i (taken j)) = inode_path (heights_now image 0) j 0 ∷ []
entry_targets image (moves i s j) = slot_target image j (empty_slot image j)
entry_targets image _ = []

abbrev pub targets : Image → Change → List WordPath
targets image change =
    cover_now image change ∷ flat_map (end_targets image) (beyond image change ++ new_inodes image change)
    ++ entry_targets image change

-- ---- thaw: which blocks are copied

-- the case without a snapshot: no block is in the snapshot
abbrev pub none_in_snapshot : ℕ → Bool
none_in_snapshot b = false

-- the pointer at this path is live and leads to a block of the snapshot
abbrev pub is_in_snapshot_at : Image → (ℕ → Bool) → WordPath → Bool
is_in_snapshot_at image in_snapshot path = is_there_now image path && in_snapshot (block_of (word image (address image path)))

-- the path `prefix` is a proper prefix of the other path
abbrev pub is_proper_prefix : WordPath → WordPath → Bool
is_proper_prefix prefix path = is_prefix prefix path && nat_lt (length prefix) (length path)

-- The pointers on the paths to some words: the proper prefixes of the paths. Each counts once, at the first path of
-- which it is a proper prefix. A path that is itself a target, such as the root word of a tree, counts if a later path
-- goes below it.
abbrev pub proper_prefixes_of : List WordPath → List WordPath → List WordPath
proper_prefixes_of earlier [] = []
proper_prefixes_of earlier (path ∷ paths) =
    filter (λ prefix. not (list_any (is_proper_prefix prefix) earlier)) (prefixes_from 0 path) ++ proper_prefixes_of (path ∷ earlier) paths

-- the pointers among them that lead to blocks of the snapshot
abbrev pub thawed_on : Image → (ℕ → Bool) → List WordPath → List WordPath
thawed_on image in_snapshot paths = filter (is_in_snapshot_at image in_snapshot) (proper_prefixes_of [] paths)

abbrev pub thawed : Image → (ℕ → Bool) → Change → List WordPath
thawed image in_snapshot change = thawed_on image in_snapshot (targets image change)

-- no pointer on a path leads to a block of the snapshot, from the prefix of length `shortest` on
abbrev pub IsLoose : Image → (ℕ → Bool) → ℕ → WordPath → Type 0
IsLoose image in_snapshot shortest path = filter (is_in_snapshot_at image in_snapshot) (prefixes_from shortest path) ≡ []

-- the number of blocks that a change takes in all, with the copies of blocks of the snapshot
abbrev pub full_need : Image → (ℕ → Bool) → Change → ℕ
full_need image in_snapshot change = length (thawed image in_snapshot change) + need image change
