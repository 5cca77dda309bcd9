-- What the current words and an undo log determine. An undo log has the events of a log, and in each store the value
-- that it replaced in place of the one that it brought.
use Rattle.std.specs.Prelude.{ℕ, ◌-◌, List, [], ◌∷◌, ◌++◌, take, drop, slice_index, slice_set}
use Rattle.pm_epochs.specs.declared.event.Event.{Event}
use Rattle.pm_epochs.specs.declared.event.Event.TheVariants.{Store, Barrier, CallEnd}

-- The words before the log: its last store is undone first.
abbrev pub base_from : List ℕ → List Event → List ℕ
base_from now [] = now
base_from now (Store word saved ∷ undos) = slice_set (base_from now undos) word saved
base_from now (Barrier ∷ undos) = base_from now undos
base_from now (CallEnd ∷ undos) = base_from now undos

-- The log: a store brought the value that its word has once all stores after it are undone.
abbrev pub events_from : List ℕ → List Event → List Event
events_from now [] = []
events_from now (Store word saved ∷ undos) = Store word (slice_index (base_from now undos) word) ∷ events_from now undos
events_from now (Barrier ∷ undos) = Barrier ∷ events_from now undos
events_from now (CallEnd ∷ undos) = CallEnd ∷ events_from now undos

-- An undo log whose events from one index up to another are those of the log again.
abbrev pub unwound_within : ℕ → ℕ → List ℕ → List Event → List Event
unwound_within start end now undos =
    take start undos ++ (events_from now (take (end - start) (drop start undos)) ++ drop end undos)

-- An undo log whose events from an index on are all those of the log again.
abbrev pub unwound : ℕ → List ℕ → List Event → List Event
unwound start now undos = take start undos ++ events_from now (drop start undos)

-- The undo log of a log, from the words before it.
abbrev pub undo_of : List ℕ → List Event → List Event
undo_of words [] = []
undo_of words (Store word value ∷ events) = Store word (slice_index words word) ∷ undo_of (slice_set words word value) events
undo_of words (Barrier ∷ events) = Barrier ∷ undo_of words events
undo_of words (CallEnd ∷ events) = CallEnd ∷ undo_of words events

-- An event without the value of a store, which is 0 here.
abbrev pub erased_event : Event → Event
erased_event (Store word value) = Store word 0
erased_event Barrier = Barrier
erased_event CallEnd = CallEnd

-- A log without the values of its stores: what it has in common with its undo log.
abbrev pub erased : List Event → List Event
erased [] = []
erased (event ∷ events) = erased_event event ∷ erased events
