-- Write-back: the processor executes the events of a log in order, and an engine writes stores back to the memory. The
-- steps of the two interleave in any order.
use Rattle.std.specs.Prelude.{◌≡◌, ℕ, ◌<◌, ◌≤◌, ◌⊎◌, Bool, true, false, Option, Some, None, List, [], ◌∷◌, ◌++◌, length, drop, replicate, slice_get, slice_set}
use Rattle.std.proofs.Common.{zero, suc}
use Rattle.pm_epochs.specs.declared.event.Event.{Event}
use Rattle.pm_epochs.specs.declared.event.Event.TheVariants.{Store, Barrier, CallEnd}
use Rattle.pm_epochs.specs.Replay.{PowerCut, is_store, epoch_of}

-- One flag for each event that the processor has executed: whether it is a store that is written back. And the words
-- of the memory, without what is still in a cache.
pub record MachineState : Type 0 where
  pub back : List Bool
  pub words : List ℕ

-- The state with these words before anything is executed.
abbrev pub machine_over : List ℕ → MachineState
machine_over base = record { back = []; words = base }

-- The processor executes its next event, or the engine writes a store back to the memory.
pub data MachineStep : Type 0 where
  Execute : MachineStep
  WriteBack : (which : ℕ) → MachineStep

-- The earlier store must be written back before the later one: it is of an earlier epoch, or goes to the same word.
pub record ComesFirst (events : List Event) (earlier later : ℕ) : Type 0 where
  pub before : earlier < later
  pub first_word : ℕ
  pub first_value : ℕ
  pub word : ℕ
  pub value : ℕ
  pub first_is : slice_get events earlier ≡ Some (Store first_word first_value)
  pub second_is : slice_get events later ≡ Some (Store word value)
  pub must : (epoch_of events earlier < epoch_of events later) ⊎ (first_word ≡ word)

-- Whether there is an event and it is a store.
abbrev pub is_some_store : Option Event → Bool
is_some_store None = false
is_some_store (Some event) = is_store event

-- Only stores are written back, and each store that must be written back before them is.
pub record IsInOrder (events : List Event) (back : List Bool) : Type 0 where
  pub few : length back ≤ length events
  pub stores : (i : ℕ) → slice_get back i ≡ Some true → is_some_store (slice_get events i) ≡ true
  pub first : (earlier later : ℕ) → slice_get back later ≡ Some true → ComesFirst events earlier later →
      slice_get back earlier ≡ Some true

-- The first store that must be written back before this one and is not.
pub record IsFirstMissing (events : List Event) (back : List Bool) (which needs : ℕ) : Type 0 where
  pub comes : ComesFirst events needs which
  pub waits : slice_get back needs ≡ Some false
  pub first : (earlier : ℕ) → earlier < needs → ComesFirst events earlier which → slice_get back earlier ≡ Some true

-- Each store before this index is written back.
pub record IsBackBelow (events : List Event) (back : List Bool) (low : ℕ) : Type 0 where
  pub few : low ≤ length back
  pub each : (i : ℕ) → i < low → is_some_store (slice_get events i) ≡ true → slice_get back i ≡ Some true

-- A store that was executed and is not written back.
abbrev pub IsWaiting : List Event → List Bool → ℕ → Type 0
IsWaiting events back which = (is_some_store (slice_get events which) ≡ true) × (slice_get back which ≡ Some false)

-- A store to this word.
pub record IsStoreTo (events : List Event) (word i : ℕ) : Type 0 where
  pub value : ℕ
  pub store : slice_get events i ≡ Some (Store word value)

-- Each store to the word in this range of the log is written back.
abbrev pub AllToBack : List Event → List Bool → ℕ → ℕ → ℕ → Type 0
AllToBack events back word from to =
    (i : ℕ) → from ≤ i → i < to → IsStoreTo events word i → slice_get back i ≡ Some true

-- The first store to the word in this range of the log that is not written back.
pub record IsFirstTo (events : List Event) (back : List Bool) (word from to first : ℕ) : Type 0 where
  pub low : from ≤ first
  pub high : first < to
  pub store : IsStoreTo events word first
  pub waits : slice_get back first ≡ Some false
  pub before : AllToBack events back word from first

-- The flags that a `Backs` has, and the number of events that it has memory for. It also notes words whose stores
-- wait, if it is asked to.
pub record Flags : Type 0 where
  pub back : List Bool
  pub room : ℕ
  pub waiting : List ℕ

-- A store that was executed and is not written back, while all stores that must come first are.
pub record MayGoBack (events : List Event) (back : List Bool) (which : ℕ) : Type 0 where
  pub word : ℕ
  pub value : ℕ
  pub store : slice_get events which ≡ Some (Store word value)
  pub waits : slice_get back which ≡ Some false
  pub first : (earlier : ℕ) → ComesFirst events earlier which → slice_get back earlier ≡ Some true

-- The steps that are allowed: executing an event if there is a next one, and writing back a store that may go back.
abbrev pub Allowed : List Event → List Bool → MachineStep → Type 0
Allowed events back Execute = length back < length events
Allowed events back (WriteBack which) = MayGoBack events back which

-- The state after this event of the log is written back: its word takes its value.
abbrev pub after_write_back : MachineState → ℕ → Option Event → MachineState
after_write_back state which (Some (Store word value)) = record {
  back = slice_set state.back which true;
  words = slice_set state.words word value;
}
after_write_back state which (Some Barrier) = state
after_write_back state which (Some CallEnd) = state
after_write_back state which None = state

-- The state after a step.
abbrev pub state_after : List Event → MachineState → MachineStep → MachineState
state_after events state Execute = record { back = state.back ++ false ∷ []; words = state.words }
state_after events state (WriteBack which) = after_write_back state which (slice_get events which)

-- These steps lead from one state to another, and each is allowed.
abbrev pub StepsTo : List Event → MachineState → List MachineStep → MachineState → Type 0
StepsTo events old [] new = old ≡ new
StepsTo events old (step ∷ steps) new =
    Allowed events old.back step × StepsTo events (state_after events old step) steps new

-- The write-backs of the flagged stores, in the order of the log. The first flag is that of the event at this index.
abbrev pub write_backs : ℕ → List Bool → List MachineStep
write_backs which [] = []
write_backs which (true ∷ back) = WriteBack which ∷ write_backs (suc which) back
write_backs which (false ∷ back) = write_backs (suc which) back

-- The processor executes as many events as there are flags, and then the flagged stores are written back in order.
abbrev pub in_log_order : List Bool → List MachineStep
in_log_order back = replicate (length back) Execute ++ write_backs 0 back

-- The epoch that is being written back: the number of barriers executed before the first store that is not written
-- back, or of all barriers executed if there is no such store.
abbrev pub open_epoch : List Event → List Bool → ℕ
open_epoch [] back = 0
open_epoch (event ∷ events) [] = 0
open_epoch (Store word value ∷ events) (true ∷ back) = open_epoch events back
open_epoch (Store word value ∷ events) (false ∷ back) = 0
open_epoch (Barrier ∷ events) (flag ∷ back) = suc (open_epoch events back)
open_epoch (CallEnd ∷ events) (flag ∷ back) = open_epoch events back

-- The flags of the stores of an epoch, as far as they were executed.
abbrev pub epoch_flags : ℕ → List Event → List Bool → List Bool
epoch_flags epoch [] back = []
epoch_flags epoch (event ∷ events) [] = []
epoch_flags zero (Store word value ∷ events) (flag ∷ back) = flag ∷ epoch_flags zero events back
epoch_flags (suc epoch) (Store word value ∷ events) (flag ∷ back) = epoch_flags (suc epoch) events back
epoch_flags zero (Barrier ∷ events) (flag ∷ back) = []
epoch_flags (suc epoch) (Barrier ∷ events) (flag ∷ back) = epoch_flags epoch events back
epoch_flags epoch (CallEnd ∷ events) (flag ∷ back) = epoch_flags epoch events back

-- The crash point of a machine with these flags.
abbrev pub cut_of : List Event → List Bool → PowerCut
cut_of events back = record {
  moment = length back;
  epoch = open_epoch events back;
  mask = epoch_flags (open_epoch events back) events back;
}

-- The number of end-of-call markers before the first store that is not written back.
abbrev pub waiting_call_ends : List Event → List Bool → ℕ
waiting_call_ends [] back = 0
waiting_call_ends (Store word value ∷ events) [] = 0
waiting_call_ends (Store word value ∷ events) (true ∷ back) = waiting_call_ends events back
waiting_call_ends (Store word value ∷ events) (false ∷ back) = 0
waiting_call_ends (Barrier ∷ events) back = waiting_call_ends events (drop 1 back)
waiting_call_ends (CallEnd ∷ events) back = suc (waiting_call_ends events (drop 1 back))
