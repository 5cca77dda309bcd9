-- The parts of a mounted file system.
use Rattle.bp_free.specs.declared.parts.Parts.{Parts}
use Rattle.bp_layout.specs.WellFormed.{IsWellFormed}
use Rattle.bp_layout.specs.Words.{Image}
use Rattle.bp_changes.specs.Sets.{IsExact}
use Rattle.pm_region.specs.Memory.{Memory, current_words}

-- The image in the region of these parts; `memory` maps a region to its memory.
abbrev pub image_in : {R : Type 0} → (R → Memory) → Parts R → Image
image_in memory parts = current_words (memory parts.region)

-- The sets and the link counts of these parts are those of the image in their region.
abbrev pub IsExactIn : {R : Type 0} → (R → Memory) → Parts R → Type 0
IsExactIn memory parts = IsExact (image_in memory parts) parts

-- The image is well formed, and the sets and counts of these parts are exactly those of the image.
pub record IsMounted {R : Type 0} (image : Image) (parts : Parts R) : Type 0 where
  pub well_formed : IsWellFormed image
  pub exact : IsExact image parts

-- The image in the region of these parts is well formed, and their sets and counts are exactly those of this image.
abbrev pub IsMountedIn : {R : Type 0} → (R → Memory) → Parts R → Type 0
IsMountedIn memory parts = IsMounted (image_in memory parts) parts
