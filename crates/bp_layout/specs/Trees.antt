-- The trees of an image: the first one at words 2 and 3 of the superblock, and in version 2 perhaps a second one, the
-- snapshot, at words 4 and 5. Definitions on an image are about its first tree. To state them of the second tree, use
-- the image in which that tree is the first.
use Rattle.std.specs.Prelude.{◌≡◌, ℕ, ◌+◌, ◌==◌, ◌&&◌, nat_lt, Bool, true, slice_set, if◌then◌else◌}
use Rattle.bp_limits.specs.Limits.{super_root, super_snapshot_root, super_snapshot_size, super_size}
use Rattle.bp_limits.specs.CallLimits.{allows_snapshot}
use Rattle.bp_layout.specs.Formatted.{version_of}
use Rattle.bp_layout.specs.Words.{Image, word}
use Rattle.bp_layout.specs.Reached.{IsLiveBlock}

-- the image whose first tree is the one at words `at` and `at` + 1 of the superblock
abbrev pub tree_image : Image → ℕ → Image
tree_image image at = if at == super_root then image
    else slice_set (slice_set image super_root (word image at)) super_size (word image (at + 1))

-- the image whose first tree is the snapshot
abbrev pub snapshot_of : Image → Image
snapshot_of image = tree_image image super_snapshot_root

-- the image has a snapshot
abbrev pub has_snapshot : Image → Bool
has_snapshot image = allows_snapshot (version_of image) && nat_lt 0 (word image super_snapshot_size)

-- a block of the snapshot
pub record IsInSnapshot (image : Image) (block : ℕ) : Type 0 where
  pub there : has_snapshot image ≡ true
  pub live : IsLiveBlock (snapshot_of image) block

-- the set has exactly the blocks of the snapshot
pub record AreInSnapshot (image : Image) (set : ℕ → Bool) : Type 0 where
  pub are : (b : ℕ) → set b ≡ true → IsInSnapshot image b
  pub all : (b : ℕ) → IsInSnapshot image b → set b ≡ true
