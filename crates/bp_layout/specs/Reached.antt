-- The trees that the image reaches, and the blocks that they hold.
use Rattle.std.specs.Prelude.{◌≡◌, ℕ, ◌<◌, ◌≤◌, Bool, false}
use Rattle.bp_limits.specs.Limits.{root_ino}
use Rattle.bp_layout.specs.Words.{Image, block_count}
use Rattle.bp_layout.specs.Tree.{HasBlock}
use Rattle.bp_layout.specs.Inode.{root_of, size_of}
use Rattle.bp_layout.specs.Directory.{EntryNames}

-- a reachable tree: the inode file, the root directory, and each inode that an entry of a reachable directory names
pub data IsReached (image : Image) : ℕ → Type 0 where
  inode_file : IsReached image 0
  root_directory : IsReached image root_ino
  named : {i j : ℕ} → (slot : ℕ) → IsReached image i → EntryNames image i slot j → IsReached image j

-- one of these trees holds the block, up to a size in bytes for each tree
pub record HoldsBlock (image : Image) (Tree : ℕ → Type 0) (bound : ℕ → ℕ) (block : ℕ) : Type 0 where
  pub tree : ℕ
  pub reached : Tree tree
  pub has : HasBlock image (root_of image tree) (bound tree) block

-- the block is not block 0, none of these trees holds it, and it is not in the snapshot
pub record IsUnheld (image : Image) (Tree : ℕ → Type 0) (bound : ℕ → ℕ) (in_snapshot : ℕ → Bool) (block : ℕ) : Type 0 where
  pub low : 1 ≤ block
  pub high : block < block_count image
  pub free : HoldsBlock image Tree bound block → ⊥
  pub loose : in_snapshot block ≡ false

-- a live block: one of the reachable trees holds it, up to the tree's own size
abbrev pub IsLiveBlock : Image → ℕ → Type 0
IsLiveBlock image = HoldsBlock image (IsReached image) (size_of image)

abbrev pub IsFreeBlock : Image → (ℕ → Bool) → ℕ → Type 0
IsFreeBlock image in_snapshot = IsUnheld image (IsReached image) (size_of image) in_snapshot
