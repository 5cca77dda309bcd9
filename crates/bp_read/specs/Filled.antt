-- The stores that make a new inode.
use Rattle.std.specs.Prelude.{◌≡◌, ℕ, ◌+◌, ◌*◌, ◌<◌, ◌≤◌}
use Rattle.bp_limits.specs.Limits.{attribute_field, inode_fields, inode_words}
use Rattle.bp_limits.specs.declared.version.Version.{Version}
use Rattle.bp_layout.specs.Formatted.{version_of}
use Rattle.bp_layout.specs.Inode.{ContentStandsAt}
use Rattle.bp_layout.specs.Words.{Image, word}
use Rattle.bp_read.specs.Within.{IsWithin}
use Rattle.pm_epochs.specs.May.{AnyAt}
use Rattle.pm_region.specs.Memory.{Memory, current_words}
use Rattle.pm_region.specs.Safe.{AddsMay}

-- these consecutive words are 0
abbrev pub AreClear : Image → ℕ → ℕ → Type 0
AreClear image first count = (k : ℕ) → k < count → word image (first + k) ≡ 0

-- an inode of this kind, without blocks and bytes, is at this place; all attributes that the version has are 0
pub record HasInodeAt (version : Version) (image : Image) (place kind : ℕ) : Type 0 where
  pub kind_is : word image place ≡ kind
  pub root : word image (place + 1) ≡ 0
  pub size : word image (place + 2) ≡ 0
  pub attributes : (f : ℕ) → attribute_field ≤ f → f < inode_fields version → word image (place + f) ≡ 0

-- Stores only to the words of inode i that have a meaning in the image's version, at most as many as these. Afterwards
-- the inode has this kind, no bytes, and attributes that are 0.
pub record FillsInode (old new : Memory) (i kind : ℕ) : Type 0 where
  pub place : ℕ
  pub stands : ContentStandsAt (current_words old) 0 (inode_words * i) place
  pub stores : AddsMay (AnyAt (IsWithin place (inode_fields (version_of (current_words old))))) 0
      (inode_fields (version_of (current_words old))) old new
  pub inode : HasInodeAt (version_of (current_words old)) (current_words new) place kind
