-- Why a mount refuses an image.
use Rattle.std.specs.Prelude.{◌≡◌}
use Rattle.bp_limits.specs.Limits.{super_magic}
use Rattle.bp_layout.specs.Words.{Image, word}
use Rattle.bp_roles.specs.Mounted.{by_roles, roles_of}
use Rattle.bp_roles.specs.Roles.{stored_at}
use Rattle.bp_roles.specs.declared.roles.Roles.{Roles}
use Rattle.bp_scan.specs.Faults.{IsFault}
use Rattle.bp_scan.specs.declared.fault.MountFault.{MountFault}
use Rattle.bp_scan.specs.declared.fault.MountFault.TheVariants.{NotFormatted, BadSize, Damaged, Memory}

-- The fault with the place where the word is stored that is seen by these roles at its place.
abbrev pub stored_fault : Roles → MountFault → MountFault
stored_fault roles NotFormatted = NotFormatted
stored_fault roles (BadSize found wanted) = BadSize found wanted
stored_fault roles (Damaged check place) = Damaged check (stored_at roles place)
stored_fault roles Memory = Memory

-- The fault applies to the image as a mount sees it, and its place is where that word is stored.
pub record IsMountFault (image : Image) (fault : MountFault) : Type 0 where
  pub shown : MountFault
  pub applies : IsFault (by_roles image) shown
  pub stored : fault ≡ stored_fault (roles_of (word image super_magic)) shown
