-- What every change keeps of an image's trees.
use Rattle.std.specs.Prelude.{◌≡◌, ℕ, ◌<◌, ◌≤◌, length}
use Rattle.bp_limits.specs.Limits.{greatest_height, super_blocks, super_magic}
use Rattle.bp_layout.specs.Words.{Image, height_of, word}
use Rattle.bp_layout.specs.Formatted.{version_of}
use Rattle.bp_layout.specs.Tree.{HasBlock, IsSound, IsFull}
use Rattle.bp_layout.specs.Inode.{IsDirectory, root_of, size_of}
use Rattle.bp_layout.specs.Reached.{IsReached}

-- The image keeps its length, its magic number and its block count. Each tree is sound and no higher than the version
-- allows, no block is in two trees, and the inode file and directories have all their blocks.
pub record KeepsTrees (old new : Image) : Type 0 where
  pub whole : length new ≡ length old
  pub has_magic : word new super_magic ≡ word old super_magic
  pub counted : word new super_blocks ≡ word old super_blocks
  pub low : (t : ℕ) → IsReached old t → 0 < size_of new t
      → height_of (root_of new t) ≤ greatest_height (version_of new)
  pub sound : (t : ℕ) → IsReached old t → IsSound new (root_of new t) (size_of new t)
  pub apart : (t u b : ℕ) → IsReached old t → IsReached old u →
      HasBlock new (root_of new t) (size_of new t) b → HasBlock new (root_of new u) (size_of new u) b → t ≡ u
  pub full_inode_file : IsFull new (root_of new 0) (size_of new 0)
  pub full_directories : (i : ℕ) → IsReached old i → IsDirectory old i → IsFull new (root_of new i) (size_of new i)
