-- Words, logs and memories as they are seen by roles.
use Rattle.std.specs.Prelude.{ℕ, ◌+◌, ◌*◌, ◌≤◌, nat_lt, Bool, false, List, map, length, slice_index, take}
use Rattle.std.specs.List.{range_with_len}
use Rattle.pm_epochs.specs.declared.event.Event.{Event}
use Rattle.pm_epochs.specs.declared.event.Event.TheVariants.{Store, Barrier, CallEnd}
use Rattle.pm_epochs.specs.declared.event.EventKind.{EventKind}
use Rattle.pm_epochs.specs.declared.event.EventKind.TheVariants as kinds
use Rattle.pm_region.specs.Memory.{Memory, current_words}
use Rattle.bp_roles.specs.Roles.{number_of, stored_at, seen_at, swapped}
use Rattle.bp_roles.specs.declared.roles.Roles.{Roles}

-- The words as they are seen: each is the one stored at its place.
unfoldable pub seen_words : Roles → List ℕ → List ℕ
seen_words roles words = map (λ i. swapped roles i (slice_index words (stored_at roles i))) (range_with_len 0 (length words))

-- An event as it is seen: a store goes to the word at which its word is seen.
abbrev pub seen_event : Roles → Event → Event
seen_event roles (Store word value) = Store (seen_at roles word) (swapped roles (seen_at roles word) value)
seen_event roles Barrier = Barrier
seen_event roles CallEnd = CallEnd

-- The kind of an event as it is seen.
abbrev pub seen_kind : Roles → EventKind → EventKind
seen_kind roles (kinds.Store word) = kinds.Store (seen_at roles word)
seen_kind roles kinds.Barrier = kinds.Barrier
seen_kind roles kinds.CallEnd = kinds.CallEnd

-- Whether an event of this kind is a store to one of the first 8 words.
abbrev pub is_of_head : EventKind → Bool
is_of_head (kinds.Store word) = nat_lt word 8
is_of_head kinds.Barrier = false
is_of_head kinds.CallEnd = false

-- The events of a log as they are seen.
abbrev pub seen_events : Roles → List Event → List Event
seen_events roles events = map (seen_event roles) events

-- The event that is seen as this one.
abbrev pub raw_event : Roles → Event → Event
raw_event roles (Store word value) = Store (stored_at roles word) (swapped roles word value)
raw_event roles Barrier = Barrier
raw_event roles CallEnd = CallEnd

-- The events that are seen as these.
abbrev pub raw_events : Roles → List Event → List Event
raw_events roles events = map (raw_event roles) events

-- A memory as it is seen: its base and its events are; the capacity of its log and its number of drains are the same.
-- The number of the view gives the roles, of which there are four, and the view of the memory itself.
abbrev pub seen_memory : Roles → Memory → Memory
seen_memory roles memory = record {
  base = seen_words roles memory.base;
  events = seen_events roles memory.events;
  capacity = memory.capacity;
  drains = memory.drains;
  through = 4 * memory.through + number_of roles;
}

-- A memory, and the roles by which it is seen.
pub record MemoryByRoles : Type 0 where
  pub roles : Roles
  pub memory : Memory

-- The memory as it is seen by its roles.
abbrev pub seen : MemoryByRoles → Memory
seen it = seen_memory it.roles it.memory

-- The first 8 words of a memory, as the processor sees them.
abbrev pub head_words : Memory → List ℕ
head_words memory = take 8 (current_words memory)

-- The memory has all words that have roles.
abbrev pub IsWide : Memory → Type 0
IsWide memory = 8 ≤ length memory.base
