-- The condition of a preparation and its effect on an image.
use Rattle.std.specs.Prelude.{◌≡◌, ◌≢◌, ◌⊎◌, ℕ, suc, ◌+◌, ◌-◌, ◌*◌, ◌/◌, ◌<◌, ◌≤◌, List, ◌++◌, length, Bool, false}
use Rattle.bp_layout.specs.Words.{Image, word, height_of}
use Rattle.bp_layout.specs.Formatted.{version_of}
use Rattle.bp_layout.specs.Tree.{tree_word, byte, node, span, IsLivePointer, IsLiveWord, HasBlock, IsSound, IsFull}
use Rattle.bp_layout.specs.Inode.{RootPlace, root_of, size_of}
use Rattle.bp_layout.specs.Reached.{IsReached, IsFreeBlock}
use Rattle.bp_layout.specs.WellFormed.{IsWellFormed}
use Rattle.bp_layout.specs.WordPaths.{WordPath, tree_path}
use Rattle.bp_limits.specs.Limits.{block_words, greatest_height, inode_words, max_height, root_field, super_root}
use Rattle.bp_limits.specs.CallLimits.{greatest_size}
use Rattle.bp_layout.specs.Nodes.{nodes_for, height_with}
use Rattle.bp_layout.specs.Members.{Has, Each}
use Rattle.bp_changes.specs.SameContent.{IsReadByWords}
use Rattle.bp_changes.specs.SameMeaning.{SameMeaning}
use Rattle.pm_region.specs.Memory.{Memory, current_words, room_in}
use Rattle.bp_free.specs.Set.{members}
use Rattle.bp_free.specs.declared.parts.Parts.{Parts}
use Rattle.bp_changes.specs.Sets.{in_snapshot_of}
use Rattle.bp_changes.specs.Performs.{AddsTaking}
use Rattle.bp_append.specs.Stores.{prep_stores, room_past_end}
use Rattle.bp_append.specs.Given.{given}
use Rattle.bp_append.specs.Filled.{IsUsable}

-- how many blocks tree t lacks for the bytes from offset `from` to the one before `to`
abbrev pub need_for : Image → ℕ → ℕ → ℕ → ℕ
need_for image t from to = length (nodes_for image (root_of image t) (size_of image t) from to)

-- No node of tree t on the way to the byte at its size is in the snapshot, and neither is the block of its root word.
-- Apart from new blocks, a preparation of the tree stores only to these blocks.
pub record HasLooseEnd (image : Image) (in_snapshot : ℕ → Bool) (t : ℕ) : Type 0 where
  pub nodes : (d k : ℕ) → (live : IsLivePointer (root_of image t) (size_of image t) d k)
      → node image (root_of image t) d k ≢ 0 → size_of image t < k * span live.level + span live.level
      → in_snapshot (node image (root_of image t) d k) ≡ false
  pub root : (place : ℕ) → RootPlace image t place → t ≢ 0 → in_snapshot (place / block_words) ≡ false

-- The condition of a preparation. The image is well formed and reaches tree t, and the path is that of its root word.
-- The bytes are past the tree's size; for the inode file and directories they start at the size. The free blocks are
-- enough, and the log has room. The tree's blocks that are stored to are not in the snapshot.
pub record CanPrepare (in_snapshot : ℕ → Bool) (memory : Memory) (free : List ℕ) (t : ℕ) (path : WordPath)
    (from to : ℕ) : Type 0 where
  pub well : IsWellFormed (current_words memory)
  pub reached : IsReached (current_words memory) t
  pub leads : path ≡ tree_path (height_of (word (current_words memory) super_root)) t 0 0
  pub past_end : size_of (current_words memory) t ≤ from
  pub order : from ≤ to
  pub fits : to ≤ greatest_size (version_of (current_words memory))
  pub by_words : IsReadByWords (current_words memory) t → from ≡ size_of (current_words memory) t
  pub usable : IsUsable (length memory.base / block_words) free
  pub are_free : Each (IsFreeBlock (current_words memory) in_snapshot) free
  pub loose : HasLooseEnd (current_words memory) in_snapshot t
  pub enough : need_for (current_words memory) t from to ≤ length free
  pub room : block_words * need_for (current_words memory) t from to
      + room_past_end (size_of (current_words memory) t) from to max_height + 4 ≤ room_in memory

-- Tree t is prepared for the bytes up to `to`: these are the given ones, in its old blocks and the taken ones. The
-- meaning of the image is unchanged, and so is every live word of another tree except the root word of t.
pub record Prepares (old new : Image) (t from to : ℕ) (bytes taken : List ℕ) : Type 0 where
  pub meaning : SameMeaning old new
  pub height : height_of (root_of new t) ≡ height_with (root_of old t) (size_of old t) to
  pub low : height_of (root_of new t) ≤ greatest_height (version_of new)
  pub kept : (o : ℕ) → o < size_of old t → byte new (root_of new t) o ≡ byte old (root_of old t) o
  pub bytes_are : (o : ℕ) → size_of old t ≤ o → o < to → byte new (root_of new t) o ≡ given from bytes o
  pub sound : IsSound new (root_of new t) to
  pub full : IsReadByWords old t → IsFull new (root_of new t) to
  pub blocks : (b : ℕ) → HasBlock new (root_of new t) to b → HasBlock old (root_of old t) (size_of old t) b
      ⊎ Has taken b
  pub has_old : (b : ℕ) → HasBlock old (root_of old t) (size_of old t) b → HasBlock new (root_of new t) to b
  pub has_taken : (b : ℕ) → Has taken b → HasBlock new (root_of new t) to b
  -- its old nodes have the same height above the leaves
  pub nodes : (d k : ℕ) → IsLivePointer (root_of old t) (size_of old t) d k → node old (root_of old t) d k ≢ 0 →
      node new (root_of new t) (height_of (root_of new t) - height_of (root_of old t) + d) k ≡ node old (root_of old t) d k
  pub sizes : (u : ℕ) → IsReached old u → size_of new u ≡ size_of old u
  pub roots : (u : ℕ) → IsReached old u → u ≢ t → root_of new u ≡ root_of old u
  pub apart : (u b : ℕ) → IsReached old u → u ≢ t → HasBlock new (root_of new u) (size_of new u) b
      → HasBlock new (root_of new t) to b → ⊥
  pub others : (u d k : ℕ) → IsReached old u → u ≢ t → IsLiveWord (root_of old u) (size_of old u) (suc d) k
      → ((u ≡ 0) → (d ≡ height_of (root_of old 0)) → (k ≡ inode_words * t + root_field) → ⊥) →
      tree_word new (root_of new u) (suc d) k ≡ tree_word old (root_of old u) (suc d) k

-- The effect of a preparation. It takes the first of the free blocks, as many as needed. At each crash point the
-- meaning of the image is unchanged. Each taken block gets a store, and no other free block does.
pub record PreparesWith (in_snapshot : ℕ → Bool) (old new : Memory) (free_old free_new : List ℕ) (t from to : ℕ)
    (bytes : List ℕ) : Type 0 where
  pub taken : List ℕ
  pub takes : free_old ≡ taken ++ free_new
  pub counted : length taken ≡ need_for (current_words old) t from to
  pub adds : AddsTaking in_snapshot taken 2 (prep_stores (size_of (current_words old) t) from to
      (need_for (current_words old) t from to)) old new
  pub ready : Prepares (current_words old) (current_words new) t from to bytes taken

-- ---- conditions and effects on the parts of a file system

-- the path is that of the root word of a tree that can be prepared
abbrev pub IsPreparable : {R : Type 0} → (R → Memory) → Parts R → WordPath → ℕ → ℕ → Type 0
IsPreparable memory parts path from to =
    (t : ℕ) × CanPrepare (in_snapshot_of parts) (memory parts.region) (members parts.free_blocks) t path from to

-- the tree to whose root word the path leads is prepared
abbrev pub PreparesAt : {R : Type 0} → (R → Memory) → Parts R → Parts R → WordPath → ℕ → ℕ → List ℕ → Type 0
PreparesAt memory old new path from to bytes =
    (t : ℕ) → CanPrepare (in_snapshot_of old) (memory old.region) (members old.free_blocks) t path from to
    → PreparesWith (in_snapshot_of old) (memory old.region) (memory new.region) (members old.free_blocks)
    (members new.free_blocks) t from to bytes
