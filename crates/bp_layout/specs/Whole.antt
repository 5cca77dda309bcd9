-- An image with both its trees: when it is a file system, which checks fail in it, when it means the same as another,
-- and its number of free blocks.
use Rattle.std.specs.Prelude.{◌≡◌, ℕ, ◌==◌, Bool, true, if◌then◌else◌}
use Rattle.bp_limits.specs.Limits.{super_root, super_snapshot_root, super_snapshot_size, super_size}
use Rattle.bp_layout.specs.Checks.{Fails}
use Rattle.bp_layout.specs.Words.{Image}
use Rattle.bp_layout.specs.Free.{HasFree}
use Rattle.bp_layout.specs.Same.{Same}
use Rattle.bp_layout.specs.Trees.{AreInSnapshot, has_snapshot, snapshot_of}
use Rattle.bp_layout.specs.WellFormed.{IsWellFormed}
use Rattle.bp_layout.specs.declared.check.Check.{Check}

-- each tree is well formed; a block may be in both
pub record IsFileSystem (image : Image) : Type 0 where
  pub first : IsWellFormed image
  pub second : has_snapshot image ≡ true → IsWellFormed (snapshot_of image)

-- The place in the image of a word of `snapshot_of` that image: the root word and the size of the snapshot have places
-- of their own; all other places are the same.
abbrev pub second_place : ℕ → ℕ
second_place place =
    if place == super_root then super_snapshot_root
    else if place == super_size then super_snapshot_size
    else place

-- a check fails at a place, in the first tree or in the snapshot if there is one
pub data FailsWhole (image : Image) : Check → ℕ → Type 0 where
  first : {check : Check} {place : ℕ} → Fails image check place → FailsWhole image check place
  second : {check : Check} {place : ℕ} → has_snapshot image ≡ true → Fails (snapshot_of image) check place
      → FailsWhole image check (second_place place)

-- no check fails at any place, in either tree
pub record NoneFailsWhole (image : Image) : Type 0 where
  pub none : (check : Check) (place : ℕ) → FailsWhole image check place → ⊥

-- both images have a snapshot, and it means the same, or neither has one
pub record SameSnapshot (old new : Image) : Type 0 where
  pub there : has_snapshot new ≡ has_snapshot old
  pub same : has_snapshot old ≡ true → Same (snapshot_of old) (snapshot_of new)

-- the first trees mean the same, in one version, and so do the snapshots
pub record SameFiles (old new : Image) : Type 0 where
  pub first : Same old new
  pub second : SameSnapshot old new

-- `count` is the number of blocks that are in neither tree
pub record HasSpace (image : Image) (count : ℕ) : Type 0 where
  pub in_snapshot : ℕ → Bool
  pub are : AreInSnapshot image in_snapshot
  pub free : HasFree image in_snapshot count
