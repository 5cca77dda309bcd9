-- The words that a region has stored, by the memory that is seen: its number of the view gives the roles.
use Rattle.std.specs.Prelude.{◌==◌, ◌%◌, ℕ, if◌then◌else◌, List, map, length, slice_index}
use Rattle.std.specs.List.{range_with_len}
use Rattle.pm_epochs.specs.declared.event.Event.{Event}
use Rattle.pm_region.specs.Memory.{Memory, current_words}
use Rattle.bp_roles.specs.Roles.{seen_at, swapped}
use Rattle.bp_roles.specs.Seen.{raw_events}
use Rattle.bp_roles.specs.declared.roles.Roles.{Roles}
use Rattle.bp_roles.specs.declared.roles.Roles.TheVariants.{OutsideA, OutsideB, InsideA, InsideB}

-- The roles with a number, the inverse of `number_of`; `OutsideA` for a number that no roles have.
unfoldable pub roles_numbered : ℕ → Roles
roles_numbered number =
    if number == 1 then OutsideB
    else if number == 2 then InsideA
    else if number == 3 then InsideB
    else OutsideA

-- The roles by which a memory is seen; `OutsideA` if it is the region's own memory.
abbrev pub roles_in : Memory → Roles
roles_in memory = roles_numbered (memory.through % 4)

-- The stored words that are seen as these: each is the one seen at its place.
unfoldable pub raw_words : Roles → List ℕ → List ℕ
raw_words roles words =
    map (λ i. swapped roles (seen_at roles i) (slice_index words (seen_at roles i))) (range_with_len 0 (length words))

-- The words that the region below has now, and those that it had at the last drain. If the memory is the region's own,
-- these are its words.
abbrev pub stored_words : Memory → List ℕ
stored_words memory = raw_words (roles_in memory) (current_words memory)

abbrev pub stored_base : Memory → List ℕ
stored_base memory = raw_words (roles_in memory) memory.base

-- The log of the region below.
abbrev pub stored_events : Memory → List Event
stored_events memory = raw_events (roles_in memory) memory.events
