-- The volume that a handle is known to hold, when it is taken out.
use Rattle.std.specs.Prelude.{◌≡◌, Option, Some, None}
use Rattle.std.specs.Global.{Box, Global}
use Rattle.bpfs_c.specs.declared.loose.RawBox.{RawBox}
use Rattle.bpfs_c.specs.declared.mounted.Mounted.{Mounted}

-- The pointer, where there is one, is to the volume that was held; there is none where no volume was held.
abbrev pub IsSealed : Option Mounted → Option (RawBox Mounted Global) → Type 0
IsSealed held None = held ≡ None
IsSealed held (Some loose) = held ≡ Some loose.value

-- The box, where there is one, has the volume that was held; there is none where no volume was held.
abbrev pub IsHeld : Option Mounted → Option (Box Mounted) → Type 0
IsHeld held None = held ≡ None
IsHeld held (Some mounted) = held ≡ Some mounted.value
