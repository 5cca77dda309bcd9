-- The state before the one store that makes a new name visible.
use Rattle.std.specs.Prelude.{◌≡◌, ◌≢◌, ℕ, ◌+◌, ◌/◌, ◌<◌, ◌≤◌}
use Rattle.bp_layout.specs.Formatted.{version_of}
use Rattle.bp_limits.specs.Limits.{entry_size, greatest_height}
use Rattle.bp_layout.specs.Directory.{ino_at, ino_in, name_at, name_in, entry_count}
use Rattle.bp_layout.specs.Paths.{Name, no_attributes}
use Rattle.bp_layout.specs.Free.{IsFreeInode}
use Rattle.bp_layout.specs.Inode.{IsDirectory, attributes_of, kind_of, root_of, size_of}
use Rattle.bp_layout.specs.Reached.{IsReached}
use Rattle.bp_layout.specs.Tree.{HasBlock, IsSound, IsFull}
use Rattle.bp_layout.specs.Words.{Image, height_of}

-- Inode `j`, which no path reaches, is a file or a directory without bytes, whose attributes are 0.
pub record IsNewInode (image : Image) (j kind : ℕ) : Type 0 where
  pub free : IsFreeInode image j
  pub kind_is : kind_of image j ≡ kind
  pub least : 1 ≤ kind
  pub most : kind ≤ 2
  pub empty : size_of image j ≡ 0
  pub attributes : attributes_of image j ≡ no_attributes

-- Entry `s` of directory `i` is empty, and its other words hold this name.
pub record IsReadyEntry (image : Image) (i s : ℕ) (name : Name) : Type 0 where
  pub reached : IsReached image i
  pub directory : IsDirectory image i
  pub slot : s < entry_count image i
  pub empty : ino_at image i s ≡ 0
  pub spelled : name_at image i s ≡ name

-- After the last entry of directory `i` there is one with this name for inode `j`. Read with one more entry the
-- directory's tree is sound and has no null pointer, and it shares no block with another tree.
pub record IsReadyPastEnd (image : Image) (i j : ℕ) (name : Name) : Type 0 where
  pub reached : IsReached image i
  pub directory : IsDirectory image i
  pub sound : IsSound image (root_of image i) (size_of image i + entry_size)
  pub low : height_of (root_of image i) ≤ greatest_height (version_of image)
  pub full : IsFull image (root_of image i) (size_of image i + entry_size)
  pub apart : (u b : ℕ) → IsReached image u → u ≢ i →
      HasBlock image (root_of image i) (size_of image i + entry_size) b →
      HasBlock image (root_of image u) (size_of image u) b → ⊥
  pub ino : ino_in image (root_of image i) (size_of image i / entry_size) ≡ j
  pub spelled : name_in image (root_of image i) (size_of image i / entry_size) ≡ name
