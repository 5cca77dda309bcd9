-- When the first tree of an image is a tree of files and directories.
use Rattle.std.specs.Prelude.{◌≡◌, ◌≢◌, ℕ, suc, ◌%◌, ◌<◌, ◌≤◌}
use Rattle.bp_layout.specs.Words.{Image, height_of}
use Rattle.bp_layout.specs.Tree.{HasBlock, IsSound, IsFull}
use Rattle.bp_layout.specs.Inode.{IsDirectory, inode_count, kind_of, root_of, size_of}
use Rattle.bp_layout.specs.Directory.{EntryNames, name_at}
use Rattle.bp_layout.specs.Paths.{IsName}
use Rattle.bp_layout.specs.Reached.{IsReached}
use Rattle.bp_layout.specs.Formatted.{IsFormatted, version_of}
use Rattle.bp_limits.specs.Limits.{block_size, entry_size, greatest_height, root_ino}

pub record IsWellFormed (image : Image) : Type 0 where
  pub formatted : IsFormatted image
  -- no tree is higher than the image's version allows
  pub low : (t : ℕ) → IsReached image t → 0 < size_of image t
      → height_of (root_of image t) ≤ greatest_height (version_of image)
  -- each tree is sound, and no block is in two trees
  pub sound : (t : ℕ) → IsReached image t → IsSound image (root_of image t) (size_of image t)
  pub apart : (t u b : ℕ) → IsReached image t → IsReached image u →
      HasBlock image (root_of image t) (size_of image t) b → HasBlock image (root_of image u) (size_of image u) b
      → t ≡ u
  pub full_inode_file : IsFull image (root_of image 0) (size_of image 0)
  pub full_directories : (i : ℕ) → IsReached image i → IsDirectory image i
      → IsFull image (root_of image i) (size_of image i)
  -- the inode file consists of whole blocks of inodes
  pub inode_blocks : size_of image 0 % block_size ≡ 0
  pub some_inodes : block_size ≤ size_of image 0
  -- each entry names an existing inode, none names the root, and no two entries name one directory
  pub inos : (i s j : ℕ) → IsReached image i → EntryNames image i s j → j < inode_count image
  pub not_root : (i s j : ℕ) → IsReached image i → EntryNames image i s j → j ≢ root_ino
  pub named_once : (i s k r j : ℕ) → IsReached image i → IsReached image k → EntryNames image i s j
      → EntryNames image k r j → IsDirectory image j → (i ≡ k) × (s ≡ r)
  pub kinds : (i : ℕ) → IsReached image (suc i) → (1 ≤ kind_of image (suc i)) × (kind_of image (suc i) ≤ 2)
  pub root_kind : IsDirectory image root_ino
  pub directory_sizes : (i : ℕ) → IsReached image i → IsDirectory image i → size_of image i % entry_size ≡ 0
  pub names : (i s j : ℕ) → IsReached image i → EntryNames image i s j → IsName (name_at image i s)
  pub names_once : (i s r j k : ℕ) → IsReached image i → EntryNames image i s j → EntryNames image i r k
      → name_at image i s ≡ name_at image i r → s ≡ r
