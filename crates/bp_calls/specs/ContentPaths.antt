-- The paths of content words, across a change.
use Rattle.std.specs.Prelude.{◌≡◌, ℕ, ◌*◌, ◌<◌, []}
use Rattle.bp_layout.specs.Words.{Image, height_of}
use Rattle.bp_layout.specs.Tree.{IsFull}
use Rattle.bp_layout.specs.Inode.{root_of, size_of}
use Rattle.bp_layout.specs.Reached.{IsReached}
use Rattle.bp_layout.specs.Need.{Change, content_path, existing_from, height_after, is_there_after}

-- Tree `t` is reachable and has no null pointer, and content word `k` lies below its size.
pub record HasContentWord (image : Image) (t k : ℕ) : Type 0 where
  pub reached : IsReached image t
  pub full : IsFull image (root_of image t) (size_of image t)
  pub below : 8 * k < size_of image t

-- The change keeps the heights of the inode file and of tree `t`.
pub record KeepsHeights (image : Image) (change : Change) (t : ℕ) : Type 0 where
  pub inode_file : height_after image change 0 ≡ height_of (root_of image 0)
  pub tree : height_after image change t ≡ height_of (root_of image t)

-- The whole path of content word `k` of tree `t` exists.
abbrev pub WholePathExists : Image → Change → ℕ → ℕ → Type 0
WholePathExists image change t k =
    existing_from (is_there_after image change) [] (content_path image change t k) ≡ content_path image change t k
