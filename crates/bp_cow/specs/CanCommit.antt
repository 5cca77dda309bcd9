-- The conditions of a commit.
use Rattle.std.specs.Prelude.{◌≡◌, ◌≢◌, ℕ, suc, ◌-◌, ◌*◌, ◌/◌, ◌%◌, ◌<◌, ◌≤◌, [], length, Bool}
use Rattle.bp_free.specs.Set.{Set, has}
use Rattle.bp_layout.specs.Free.{AreUnheld}
use Rattle.bp_layout.specs.Members.{Has}
use Rattle.bp_layout.specs.Words.{Image, word, block_count, height_of}
use Rattle.bp_layout.specs.Inode.{root_of, size_of}
use Rattle.bp_layout.specs.Reached.{IsReached}
use Rattle.bp_layout.specs.WordPaths.{inode_path}
use Rattle.bp_limits.specs.Limits.{root_field, super_root}
use Rattle.bp_changes.specs.Forest.{root_trail, tree_trail, IsForest, IsTreePointer}
use Rattle.bp_changes.specs.Trail.{trail_of}
use Rattle.bp_cow.specs.Touched.{IsTouched, run_end, run_path, path_of, word_paths, end_trail, touched_trail}
use Rattle.bp_cow.specs.declared.touched.Run.{Run}
use Rattle.bp_cow.specs.declared.touched.Touched.{Touched}
use Rattle.bp_cow.specs.declared.touched.TreeSize.{TreeSize}

-- the set has exactly the blocks of the image's snapshot
pub record IsSetOfSnapshot (in_snapshot : ℕ → Bool) (image : Image) (set : Set) : Type 0 where
  pub room : block_count image ≤ length set
  pub same : (b : ℕ) → has set b ≡ in_snapshot b

-- The run is in the tree of a reachable inode, which has the height that the run states. The run ends below the tree's
-- size in `bound`, and the size that the run states is at least that size.
pub record IsRunIn (old : Image) (bound : ℕ → ℕ) (run : Run) : Type 0 where
  pub inode : ℕ
  pub reached : IsReached old (suc inode)
  pub root : trail_of run.root.items (length run.root.items) ≡ root_trail (height_of (word old super_root)) (suc inode)
  pub height : run.height ≡ height_of (root_of old (suc inode))
  pub below : run_end run ≤ bound (suc inode)
  pub counts : bound (suc inode) ≤ run.size

-- the tree is that of a reachable inode or the inode file, has this height, and states a size of at least its size in
-- `bound`
pub record IsTreeIn (old : Image) (bound : ℕ → ℕ) (tree : TreeSize) : Type 0 where
  pub number : ℕ
  pub reached : IsReached old number
  pub root : trail_of tree.root.items (length tree.root.items) ≡ root_trail (height_of (word old super_root)) number
  pub height : tree.height ≡ height_of (root_of old number)
  pub counts : bound number ≤ tree.size

-- The condition on the image and the touched words. `bound` is for each tree the greater of its old size and its new
-- size. With these sizes the reachable trees are sound, no block is in two of them, and the free blocks are exactly
-- those that none of them has and that are not in the snapshot. Each proper prefix of a touched path is the path of a
-- pointer, and no touched path is.
pub record CanCommit (old : Image) (bound : ℕ → ℕ) (in_snapshot : ℕ → Bool) (touched : Touched) (free : ℕ → Bool)
    : Type 0 where
  pub shape : IsTouched touched
  pub forest : IsForest old bound
  pub sizes : (t : ℕ) → IsReached old t → size_of old t ≤ bound t
  pub exact : AreUnheld old (IsReached old) bound in_snapshot free
  pub pointers : (i d : ℕ) → i < length touched.words.now → d < length (path_of (word_paths touched) i) →
      IsTreePointer old bound (trail_of (path_of (word_paths touched) i) d)
  pub contents : (i : ℕ) → i < length touched.words.now → ¬ IsTreePointer old bound (touched_trail touched i)
  pub runs : (run : Run) → Has touched.runs.now run → IsRunIn old bound run
  pub trees : (tree : TreeSize) → Has touched.trees.now tree → IsTreeIn old bound tree
  -- the paths are different, and none is the path of a word of a run
  pub apart : (i k : ℕ) → i < length touched.words.now → k < length touched.words.now
      → touched_trail touched i ≡ touched_trail touched k → i ≡ k
  pub beside : (run : Run) (i k : ℕ) → Has touched.runs.now run → i < length touched.words.now → run.offset / 8 ≤ k
      → k ≤ (run_end run - 1) / 8 →
      touched_trail touched i ≢ end_trail (run_path run k)

-- the statement `Holds` is true for all sizes, blocks of the snapshot and free blocks with which the words can be
-- committed
abbrev pub WhereCanCommit : Image → Touched → Type 0 → Type 0
WhereCanCommit image touched Holds =
    (bound : ℕ → ℕ) (in_snapshot free : ℕ → Bool) → CanCommit image bound in_snapshot touched free → Holds

-- ---- with the sizes of the image itself

-- the given trees are trees of the image, with its sizes
abbrev pub HasTrees : Image → Touched → Type 0
HasTrees image touched = (tree : TreeSize) → Has touched.trees.now tree → IsTreeIn image (size_of image) tree

-- the runs lie within trees of the image, below their sizes
abbrev pub HasRunsIn : Image → Touched → Type 0
HasRunsIn image touched = (run : Run) → Has touched.runs.now run → IsRunIn image (size_of image) run

-- the touched words can be committed with the sizes of the image and these free blocks
abbrev pub CanCommitAsIs : Image → (ℕ → Bool) → Touched → (ℕ → Bool) → Type 0
CanCommitAsIs image in_snapshot touched free = CanCommit image (size_of image) in_snapshot touched free

-- a single touched word can be committed if it is content word k of reachable tree t, below its size, and no root word
-- in the inode file
abbrev pub CanCommitWord : Image → (ℕ → Bool) → Touched → (ℕ → Bool) → ℕ → ℕ → Type 0
CanCommitWord image in_snapshot touched free t k =
    HasTrees image touched → touched.runs.now ≡ [] → length touched.words.now ≡ 1 →
    IsReached image t → 8 * k < size_of image t → (t ≡ 0 → k % 8 ≢ 1) →
    touched_trail touched 0 ≡ tree_trail (height_of (word image super_root)) t (suc (height_of (root_of image t))) k →
    CanCommitAsIs image in_snapshot touched free

-- runs without touched words can be committed
abbrev pub CanCommitRuns : Image → (ℕ → Bool) → Touched → (ℕ → Bool) → Type 0
CanCommitRuns image in_snapshot touched free =
    HasTrees image touched → length touched.words.now ≡ 0 → HasRunsIn image touched → CanCommitAsIs image in_snapshot touched free

-- a tree with the root path, height and size of an inode of the image is a tree of the image
abbrev pub IsInodeTree : Image → ℕ → TreeSize → Type 0
IsInodeTree image n tree =
    tree.root.items ≡ inode_path (height_of (root_of image 0)) n root_field → tree.height ≡ height_of (root_of image n) →
    tree.size ≡ size_of image n → IsTreeIn image (size_of image) tree

-- a tree with the root path, height and size of the inode file is a tree of the image
abbrev pub IsInodeFileTree : Image → TreeSize → Type 0
IsInodeFileTree image tree =
    tree.root.items ≡ [] → tree.height ≡ height_of (root_of image 0) → tree.size ≡ size_of image 0 →
    IsTreeIn image (size_of image) tree

-- the tree is also a tree of another image that has it at the same height, if its size in `bound` is no greater than
-- before
abbrev pub StaysTree : Image → Image → (ℕ → ℕ) → ℕ → TreeSize → Type 0
StaysTree old new bound n tree =
    IsReached new n → height_of (word new super_root) ≡ height_of (word old super_root) →
    height_of (root_of new n) ≡ height_of (root_of old n) → bound n ≤ size_of old n → IsTreeIn new bound tree
