-- Why an image is not a file system, and why its first tree is not well formed.
use Rattle.std.specs.Prelude.{◌≡◌, ◌≢◌, ◌⊎◌, ℕ, ◌-◌, ◌*◌, ◌^◌, Bool, false, min}
use Rattle.bp_layout.specs.Checks.{Fails}
use Rattle.bp_layout.specs.Whole.{FailsWhole, second_place}
use Rattle.bp_limits.specs.Limits.{block_size, magic, super_blocks, super_magic}
use Rattle.bp_limits.specs.declared.version.Version.{Version}
use Rattle.bp_layout.specs.Formatted.{version_of}
use Rattle.bp_layout.specs.Words.{Image, word, block_count}
use Rattle.bp_layout.specs.declared.check.Check.{Check}
use Rattle.bp_scan.specs.declared.fault.MountFault.{MountFault}
use Rattle.bp_scan.specs.declared.fault.MountFault.TheVariants.{NotFormatted, BadSize, Damaged, Memory}

-- The fault applies to the image. `NotFormatted`: the magic number is that of no version. `BadSize`: the magic number
-- is right, and the number of blocks is another one than the superblock has. `Damaged`: both are right, and this check
-- fails at this place. `Memory` never applies.
abbrev pub IsFaultBy : (Check → ℕ → Type 0) → Image → MountFault → Type 0
IsFaultBy DoesFail image NotFormatted = (version : Version) → word image super_magic ≢ magic version
IsFaultBy DoesFail image (BadSize found wanted) =
    (word image super_magic ≡ magic (version_of image)) × (word image super_blocks ≢ block_count image)
    × (found ≡ block_size * block_count image) × (wanted ≡ min (block_size * word image super_blocks) (2 ^ 64 - 1))
IsFaultBy DoesFail image (Damaged check place) =
    (word image super_magic ≡ magic (version_of image)) × (word image super_blocks ≡ block_count image)
    × DoesFail check place
IsFaultBy DoesFail image Memory = ⊥

-- The fault applies, by the checks of the first tree.
abbrev pub IsTreeFault : Image → MountFault → Type 0
IsTreeFault image = IsFaultBy (Fails image) image

-- The fault applies, by the checks of both trees.
abbrev pub IsFault : Image → MountFault → Type 0
IsFault image = IsFaultBy (FailsWhole image) image

-- The fault applies, or allocation failed. The second is possible only if the names of the image are not known.
abbrev pub IsScanFault : Bool → (MountFault → Type 0) → MountFault → Type 0
IsScanFault known Applies fault = ((fault ≡ Memory) × (known ≡ false)) ⊎ Applies fault

-- The fault of an image whose second tree has this fault when it is read as the first one. The place is converted.
abbrev pub of_second : MountFault → MountFault
of_second NotFormatted = NotFormatted
of_second (BadSize found wanted) = BadSize found wanted
of_second (Damaged check place) = Damaged check (second_place place)
of_second Memory = Memory
