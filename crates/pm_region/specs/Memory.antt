-- A region of persistent memory: the words at the last drain, and the events since.
use Rattle.std.specs.Prelude.{◌≡◌, ℕ, ◌+◌, ◌-◌, ◌^◌, ◌<◌, min, nat_lt, if◌then◌else◌, List, [], ◌∷◌, ◌++◌, Some, length, drop, slice_get}
use Rattle.std.specs.List.{splice}
use Rattle.pm_epochs.specs.declared.event.Event.{Event}
use Rattle.pm_epochs.specs.declared.event.Event.TheVariants.{Barrier, CallEnd, Store}
use Rattle.pm_epochs.specs.Log.{words_after}
use Rattle.pm_epochs.specs.May.{StoresMay}
use Rattle.pm_epochs.specs.Replay.{PowerCut, replay}

-- The words at the last drain, the events since, how many events the log can hold, the number of drains, and as what
-- the words are seen.
pub record Memory : Type 0 where
  pub base : List ℕ
  pub events : List Event
  pub capacity : ℕ
  pub drains : ℕ
  -- The number of the view through which this is seen; 0 if it is the region's own memory. No call of a region changes
  -- it.
  pub through : ℕ

-- The words as the processor sees them.
abbrev pub current_words : Memory → List ℕ
current_words memory = words_after memory.base memory.events

-- The words of a region as the processor sees them; `memory` maps a region to its memory.
abbrev pub words_in : {R : Type 0} → (R → Memory) → R → List ℕ
words_in memory region = current_words (memory region)

-- The number of events that still fit into the log.
abbrev pub room_in : Memory → ℕ
room_in memory = memory.capacity - length memory.events

-- The new memory is the old one with these events appended to its log.
abbrev pub Adds : Memory → Memory → List Event → Type 0
Adds old new more = new ≡ record old { events = old.events ++ more }

-- Each store of these events goes to one of the first `count` words.
abbrev pub AreWithin : ℕ → List Event → Type 0
AreWithin count events = StoresMay (λ word value. word < count) events

-- The events that one memory's log has after those of another's.
abbrev pub events_between : Memory → Memory → List Event
events_between old new = drop (length old.events) new.events

-- The memory with all stores written back. The count of drains stays at its largest value once it is there.
abbrev pub drained : Memory → Memory
drained memory =
    record memory { base = current_words memory; events = []; drains = min (memory.drains + 1) (2 ^ 64 - 1) }

-- The memory with the words that a crash leaves, and an empty log.
abbrev pub crashed : Memory → PowerCut → Memory
crashed memory cut = record memory { base = replay memory.base memory.events cut; events = [] }

-- The memory, drained if this number of events might not fit into the log.
abbrev pub with_room : ℕ → Memory → Memory
with_room wanted memory = if nat_lt (room_in memory) wanted then drained memory else memory

-- The stores of these values at the words from this one on, in order.
abbrev pub stores_from : ℕ → List ℕ → List Event
stores_from word [] = []
stores_from word (value ∷ values) = Store word value ∷ stores_from (word + 1) values

-- The words with these values in place of those from this word on.
abbrev pub with_values : List ℕ → ℕ → List ℕ → List ℕ
with_values words first values = splice words first (first + length values) values

-- Both events are stores, and the second goes to the next word after that of the first.
abbrev pub Follows : Event → Event → Type 0
Follows (Store word value) (Store next other) = next ≡ word + 1
Follows (Store word value) Barrier = ⊥
Follows (Store word value) CallEnd = ⊥
Follows Barrier event = ⊥
Follows CallEnd event = ⊥

-- Of this number of events from one on, each except the first follows the one before it.
abbrev pub AreInRow : List Event → ℕ → ℕ → Type 0
AreInRow events first count =
    (i : ℕ) (event next : Event) → i + 1 < count → slice_get events (first + i) ≡ Some event →
    slice_get events (first + i + 1) ≡ Some next → Follows event next
