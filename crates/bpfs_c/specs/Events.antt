-- The log as C sees it: one record for each event.
use Rattle.std.specs.Prelude.{◌≡◌, ◌+◌, ◌-◌, ◌%◌, ◌^◌, ℕ, List, [], Option, None, Some, drop, length, map, min, take}
use Rattle.pm_epochs.specs.declared.event.Event.{Event}
use Rattle.pm_epochs.specs.declared.event.Event.TheVariants.{Barrier, CallEnd, Store}
use Rattle.pm_region.specs.Memory.{drained}
use Rattle.bpfs_c.specs.declared.log.Logged.{Logged}
use Rattle.bpfs_c.specs.declared.mounted.Mounted.{Mounted}

abbrev pub seen_event : Event → Logged
seen_event (Store word value) = record { kind = 0; word = word; value = value }
seen_event Barrier = record { kind = 1; word = 0; value = 0 }
seen_event CallEnd = record { kind = 2; word = 0; value = 0 }

-- The log of the volume that a handle holds. A handle without a volume has none.
abbrev pub held_events : Option Mounted → List Event
held_events None = []
held_events (Some held) = held.volume.events

-- The first `count` elements of the caller's array are the events of the log from index `first` on: as many as the
-- log has and the array has room for. The other elements keep their values.
pub record HasEvents (events : List Event) (first : ℕ) (old : List Logged) (count : ℕ) (new : List Logged) : Type 0 where
  pub many : count ≡ min (length events - first) (length old)
  pub prefix : take count new ≡ map seen_event (take count (drop first events))
  pub rest : drop count new ≡ drop count old

-- The number of events that drains have removed since the mount, modulo 2^64; 0 for a closed handle.
abbrev pub drained_events : Option Mounted → ℕ
drained_events None = 0
drained_events (Some held) = held.drained

-- The log is empty, its events are counted as drained, and nothing else has changed. Without a volume the number is 32.
abbrev pub IsDrained : Option Mounted → ℕ → Option Mounted → Type 0
IsDrained None code new = (code ≡ 32) × (new ≡ None)
IsDrained (Some held) code new = (code ≡ 0)
    × (new ≡ Some (record held { volume = drained held.volume; drained = (held.drained + length held.volume.events) % 2 ^ 64 }))
