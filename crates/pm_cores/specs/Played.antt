-- Core 0 executes the events of a log, while no other core stores.
use Rattle.std.specs.Prelude.{◌≡◌, ℕ, ◌==◌, if◌then◌else◌, List, [], ◌∷◌}
use Rattle.pm_epochs.specs.declared.event.Event.{Event}
use Rattle.pm_epochs.specs.declared.event.Event.TheVariants.{Store as Set, Barrier as Fence, CallEnd}
use Rattle.pm_cores.specs.declared.entry.Entry.{Entry}
use Rattle.pm_cores.specs.declared.entry.Entry.TheVariants.{Load, Store, Barrier}
use Rattle.pm_cores.specs.Log.{IsStore}

-- The events without the end-of-call markers.
abbrev pub without_call_ends : List Event → List Event
without_call_ends [] = []
without_call_ends (Set word value ∷ events) = Set word value ∷ without_call_ends events
without_call_ends (Fence ∷ events) = Fence ∷ without_call_ends events
without_call_ends (CallEnd ∷ events) = without_call_ends events

-- The stores and barriers of core 0.
abbrev pub done_by_first : List Entry → List Event
done_by_first [] = []
done_by_first (Load core word ∷ log) = done_by_first log
done_by_first (Store core word value ∷ log) =
    if core == 0 then Set word value ∷ done_by_first log else done_by_first log
done_by_first (Barrier core ∷ log) = if core == 0 then Fence ∷ done_by_first log else done_by_first log

-- Core 0 executed these events, where an end-of-call marker does nothing, and no other core stored.
pub record IsPlayed (events : List Event) (log : List Entry) : Type 0 where
  pub same : without_call_ends events ≡ done_by_first log
  pub alone : (place core word : ℕ) → IsStore log place core word → core ≡ 0
