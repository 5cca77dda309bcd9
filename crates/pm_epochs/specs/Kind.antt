-- The kind of an event, which is all of it except the value that a store brings; and that value.
use Rattle.std.specs.Prelude.{ℕ, List, slice_index_or}
use Rattle.pm_epochs.specs.declared.event.Event.{Event}
use Rattle.pm_epochs.specs.declared.event.Event.TheVariants as events
use Rattle.pm_epochs.specs.declared.event.EventKind.{EventKind}
use Rattle.pm_epochs.specs.declared.event.EventKind.TheVariants as kinds

abbrev pub event_kind : Event → EventKind
event_kind (events.Store word value) = kinds.Store word
event_kind events.Barrier = kinds.Barrier
event_kind events.CallEnd = kinds.CallEnd

-- The value that an event stores; 0 if the event is not a store.
abbrev pub event_value : Event → ℕ
event_value (events.Store word value) = value
event_value events.Barrier = 0
event_value events.CallEnd = 0

-- The event of this kind with this value. The value plays no part if the kind is not a store.
abbrev pub event_of : EventKind → ℕ → Event
event_of (kinds.Store word) value = events.Store word value
event_of kinds.Barrier value = events.Barrier
event_of kinds.CallEnd value = events.CallEnd

-- The value that the event at an index stores; 0 if no store is there.
unfoldable pub value_at : List Event → ℕ → ℕ
value_at log i = event_value (slice_index_or log i events.CallEnd)
