-- Why a walk over the trees of an image ends early.
use Rattle.std.specs.Prelude.{◌≡◌, ℕ, Bool, false}
use Rattle.bp_layout.specs.declared.check.Check.{Check as CheckNumber}
use Rattle.bp_scan.specs.declared.fault.MountFault.{MountFault}
use Rattle.bp_scan.specs.declared.fault.MountFault.TheVariants.{Damaged, Memory as NoMemory}
use Rattle.bp_scan.specs.declared.name_check.WalkFault.{WalkFault}
use Rattle.bp_scan.specs.declared.name_check.WalkFault.TheVariants.{Check, Memory}

-- The fault is a check that fails, or failed allocation, which is possible only if the names are not known.
abbrev pub IsWalkFault : (CheckNumber → ℕ → Type 0) → Bool → WalkFault → Type 0
IsWalkFault DoesFail known (Check fault) = DoesFail fault.check fault.place
IsWalkFault DoesFail known Memory = known ≡ false

-- The fault of a formatted image with this fault of the walk.
abbrev pub fault_of_walk : WalkFault → MountFault
fault_of_walk (Check fault) = Damaged fault.check fault.place
fault_of_walk Memory = NoMemory
