-- The positions of the events of one kind in a log.
use Rattle.std.specs.Prelude.{ℕ, Bool, true, false, nat_lt, if◌then◌else◌, List, [], ◌∷◌, slice_index}
use Rattle.std.proofs.Common.{zero, suc}
use Rattle.pm_epochs.specs.declared.event.Event.{Event}
use Rattle.pm_epochs.specs.declared.event.Event.TheVariants.{Store, Barrier, CallEnd}

-- The positions that a `Places` has, and the number of positions that it has memory for.
pub record Placed : Type 0 where
  pub items : List ℕ
  pub room : ℕ

-- The positions, with this one prepended if it is one of them.
abbrev pub noted : Bool → ℕ → List ℕ → List ℕ
noted true place places = place ∷ places
noted false place places = places

-- The positions of the events of a kind, if the first event has this position.
abbrev pub places_where : (Event → Bool) → ℕ → List Event → List ℕ
places_where is_one at [] = []
places_where is_one at (event ∷ events) = noted (is_one event) at (places_where is_one (suc at) events)

-- Whether an event is a barrier, and whether it is an end-of-call marker.
abbrev pub is_barrier : Event → Bool
is_barrier (Store word value) = false
is_barrier Barrier = true
is_barrier CallEnd = false

abbrev pub is_call_end : Event → Bool
is_call_end (Store word value) = false
is_call_end Barrier = false
is_call_end CallEnd = true

-- The start of an epoch in a log with barriers at these positions: after the barrier before it.
abbrev pub start_after : List ℕ → ℕ → ℕ
start_after places zero = 0
start_after places (suc epoch) = suc (slice_index places epoch)

-- The number of these numbers that are less than the bound.
abbrev pub count_below : ℕ → List ℕ → ℕ
count_below bound [] = 0
count_below bound (place ∷ places) =
    if nat_lt place bound then suc (count_below bound places) else count_below bound places
