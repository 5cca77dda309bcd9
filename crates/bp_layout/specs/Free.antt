-- The free blocks and inodes of an image. A set of numbers is given by a function from a number to true or false. Some
-- blocks may be excluded besides those of the trees: the blocks of a snapshot (`in_snapshot`).
use Rattle.std.specs.Prelude.{◌≡◌, List, ℕ, ◌<◌, ◌≤◌, length, filter, Bool, true, Option, None, Some}
use Rattle.std.specs.List.{range_with_len}
use Rattle.bp_layout.specs.Words.{Image, block_count}
use Rattle.bp_layout.specs.Inode.{inode_count, size_of}
use Rattle.bp_layout.specs.Reached.{IsReached, IsUnheld}

-- the inode exists, is neither inode 0 nor inode 1, and is none of these trees
pub record IsUnused (image : Image) (Tree : ℕ → Type 0) (i : ℕ) : Type 0 where
  pub low : 2 ≤ i
  pub high : i < inode_count image
  pub free : Tree i → ⊥

-- an inode that the image does not reach
abbrev pub IsFreeInode : Image → ℕ → Type 0
IsFreeInode image = IsUnused image (IsReached image)

-- The set has exactly the blocks that none of these trees holds, up to a size in bytes for each tree, and that are not
-- in the snapshot.
pub record AreUnheld (image : Image) (Tree : ℕ → Type 0) (bound : ℕ → ℕ) (in_snapshot set : ℕ → Bool) : Type 0 where
  pub free : (b : ℕ) → set b ≡ true → IsUnheld image Tree bound in_snapshot b
  pub all : (b : ℕ) → IsUnheld image Tree bound in_snapshot b → set b ≡ true

-- the set has exactly the free blocks
abbrev pub AreFreeBlocks : Image → (ℕ → Bool) → (ℕ → Bool) → Type 0
AreFreeBlocks image in_snapshot = AreUnheld image (IsReached image) (size_of image) in_snapshot

-- the set has exactly the inodes that are none of these trees
pub record AreUnused (image : Image) (Tree : ℕ → Type 0) (set : ℕ → Bool) : Type 0 where
  pub free : (i : ℕ) → set i ≡ true → IsUnused image Tree i
  pub all : (i : ℕ) → IsUnused image Tree i → set i ≡ true

-- the set has exactly the free inodes
abbrev pub AreFreeInodes : Image → (ℕ → Bool) → Type 0
AreFreeInodes image = AreUnused image (IsReached image)

-- the numbers below a bound that are in a set, in rising order
abbrev pub numbers_below : ℕ → (ℕ → Bool) → List ℕ
numbers_below bound set = filter set (range_with_len 0 bound)

-- `count` is the number of free blocks
pub record HasFree (image : Image) (in_snapshot : ℕ → Bool) (count : ℕ) : Type 0 where
  pub set : ℕ → Bool
  pub are : AreFreeBlocks image in_snapshot set
  pub number : length (numbers_below (block_count image) set) ≡ count

-- the least free inode, or none if no inode is free
pub data IsLeastFree (image : Image) : Option ℕ → Type 0 where
  some : {i : ℕ} → IsFreeInode image i → ((j : ℕ) → IsFreeInode image j → i ≤ j) → IsLeastFree image (Some i)
  none : ((j : ℕ) → IsFreeInode image j → ⊥) → IsLeastFree image None
