-- The results of a scan for a name.
use Rattle.std.specs.Prelude.{◌≡◌, ℕ, ⊤, Option, Some, None}
use Rattle.bp_read.specs.declared.spot.Found.{Found}
use Rattle.bp_read.specs.declared.spot.Spot.{Spot}
use Rattle.bp_read.specs.declared.spot.Spot.TheVariants.{Named, Free}

-- the slot that has the name
abbrev pub named_slot : Spot → Option ℕ
named_slot (Named slot) = Some slot
named_slot (Free empty) = None

-- the result states this empty slot, unless some slot has the name
abbrev pub FreeIs : Spot → Option ℕ → Type 0
FreeIs (Named slot) expected = ⊤
FreeIs (Free empty) expected = empty ≡ expected

-- the slot of the entry that was found
abbrev pub found_slot : Option Found → Option ℕ
found_slot None = None
found_slot (Some found) = Some found.slot
