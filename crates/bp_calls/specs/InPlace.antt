-- A write that changes one word of a file in place.
use Rattle.std.specs.Prelude.{◌≢◌, ℕ, ◌+◌, ◌%◌, ◌/◌, ◌≤◌}
use Rattle.bp_layout.specs.Inode.{IsFile, root_of, size_of}
use Rattle.bp_layout.specs.Reached.{IsReached}
use Rattle.bp_layout.specs.Tree.{node}
use Rattle.bp_layout.specs.Words.{Image, height_of}
use Rattle.bp_limits.specs.Limits.{block_size}

-- `len` bytes of file `i` from offset `offset` on lie below its size, in one word, and the file has their block: they
-- are not in a hole.
pub record LiesInWord (image : Image) (i offset len : ℕ) : Type 0 where
  pub reached : IsReached image i
  pub file : IsFile image i
  pub some : 1 ≤ len
  pub below : offset + len ≤ size_of image i
  pub one_word : offset % 8 + len ≤ 8
  pub has_block : node image (root_of image i) (height_of (root_of image i)) (offset / block_size) ≢ 0
