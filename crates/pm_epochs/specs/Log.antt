-- A log of events over the words of a memory.
use Rattle.std.specs.Prelude.{◌≡◌, ℕ, ◌<◌, ◌≤◌, ◌==◌, ◌⊎◌, if◌then◌else◌, List, [], ◌∷◌, length, slice_set, Option, None, Some}
use Rattle.std.proofs.Common.{zero, suc}
use Rattle.pm_epochs.specs.declared.event.Event.{Event}
use Rattle.pm_epochs.specs.declared.event.Event.TheVariants.{Store, Barrier, CallEnd}

-- The words after the stores of the log, in order.
abbrev pub words_after : List ℕ → List Event → List ℕ
words_after words [] = words
words_after words (Store word value ∷ events) = words_after (slice_set words word value) events
words_after words (Barrier ∷ events) = words_after words events
words_after words (CallEnd ∷ events) = words_after words events

-- One word after the stores of the log, from its value before.
abbrev pub word_after : ℕ → List Event → ℕ → ℕ
word_after now [] place = now
word_after now (Store word value ∷ events) place = word_after (if word == place then value else now) events place
word_after now (Barrier ∷ events) place = word_after now events place
word_after now (CallEnd ∷ events) place = word_after now events place

-- The stores of the log, without its other events.
abbrev pub stores : List Event → List Event
stores [] = []
stores (Store word value ∷ events) = Store word value ∷ stores events
stores (Barrier ∷ events) = stores events
stores (CallEnd ∷ events) = stores events

-- The number of barriers in the log.
abbrev pub barriers : List Event → ℕ
barriers [] = 0
barriers (Store word value ∷ events) = barriers events
barriers (Barrier ∷ events) = suc (barriers events)
barriers (CallEnd ∷ events) = barriers events

-- The number of end-of-call markers in the log.
abbrev pub call_ends : List Event → ℕ
call_ends [] = 0
call_ends (Store word value ∷ events) = call_ends events
call_ends (Barrier ∷ events) = call_ends events
call_ends (CallEnd ∷ events) = suc (call_ends events)

-- The number of stores in an epoch. The epoch of an event is the number of barriers before it.
abbrev pub epoch_stores : ℕ → List Event → ℕ
epoch_stores epoch [] = 0
epoch_stores zero (Store word value ∷ events) = suc (epoch_stores zero events)
epoch_stores (suc epoch) (Store word value ∷ events) = epoch_stores (suc epoch) events
epoch_stores zero (Barrier ∷ events) = 0
epoch_stores (suc epoch) (Barrier ∷ events) = epoch_stores epoch events
epoch_stores epoch (CallEnd ∷ events) = epoch_stores epoch events

-- The events up to the end-of-call marker with this number, counted from 1: none for 0, all if there are fewer markers.
abbrev pub up_to_call_end : ℕ → List Event → List Event
up_to_call_end zero events = []
up_to_call_end (suc count) [] = []
up_to_call_end (suc count) (Store word value ∷ events) = Store word value ∷ up_to_call_end (suc count) events
up_to_call_end (suc count) (Barrier ∷ events) = Barrier ∷ up_to_call_end (suc count) events
up_to_call_end (suc count) (CallEnd ∷ events) = CallEnd ∷ up_to_call_end count events

-- Each store has a barrier after it.
abbrev pub IsClosed : List Event → Type 0
IsClosed [] = Unit {0}
IsClosed (Store word value ∷ events) = (0 < barriers events) × IsClosed events
IsClosed (Barrier ∷ events) = IsClosed events
IsClosed (CallEnd ∷ events) = IsClosed events

-- The word of the last store of the log, or the given result if the log has no store.
abbrev pub last_stored_or : Option ℕ → List Event → Option ℕ
last_stored_or otherwise [] = otherwise
last_stored_or otherwise (Store word value ∷ events) = last_stored_or (Some word) events
last_stored_or otherwise (Barrier ∷ events) = last_stored_or otherwise events
last_stored_or otherwise (CallEnd ∷ events) = last_stored_or otherwise events

-- The word of the last store of the log.
abbrev pub last_stored : List Event → Option ℕ
last_stored events = last_stored_or None events

-- At least one store of the log goes to one of these words.
abbrev pub StoresTo : (ℕ → Type 0) → List Event → Type 0
StoresTo Inside [] = ⊥
StoresTo Inside (Store word value ∷ events) = Inside word ⊎ StoresTo Inside events
StoresTo Inside (Barrier ∷ events) = StoresTo Inside events
StoresTo Inside (CallEnd ∷ events) = StoresTo Inside events

-- The log has a store to this word.
abbrev pub IsStoredIn : List Event → ℕ → Type 0
IsStoredIn events word = StoresTo (λ place. place ≡ word) events

-- A part of one call: no end-of-call marker, and at most these numbers of barriers and stores.
pub record IsPiece (most_barriers most_stores : ℕ) (events : List Event) : Type 0 where
  pub no_call_end : call_ends events ≡ 0
  pub few_barriers : barriers events ≤ most_barriers
  pub few_stores : length (stores events) ≤ most_stores
