-- A storm: what a crash finds at a random point, in a random epoch, with random stores written back.
use Rattle.std.specs.Prelude.{◌≡◌, ◌↔◌, ℕ, ◌+◌, ◌%◌, ◌==◌, Bool, true, false, not, ◌&&◌, List, [], ◌∷◌, ◌++◌, length, take, replicate, Some, slice_get}
use Rattle.std.proofs.Common.{zero, suc}
use Rattle.pm_epochs.specs.declared.event.Event.{Event}
use Rattle.pm_epochs.specs.declared.event.Event.TheVariants.{Store, Barrier, CallEnd}
use Rattle.pm_epochs.specs.Log.{barriers}
use Rattle.pm_epochs.specs.Replay.{PowerCut, place_in_epoch}
use Rattle.pm_steps.specs.WordSet.{is_noted}
use Rattle.pm_steps.specs.Machine.{cut_of, is_some_store}
use Rattle.pm_steps.specs.Runs.{AreBackBefore, RunsInLogOrder}
use Rattle.bp_replay.specs.Generator.{next_state, drawn}

-- Whether a store to the word is written back: its draw is odd, and no earlier store to the word waits.
abbrev pub goes_back : ℕ → List ℕ → ℕ → Bool
goes_back state waiting word = drawn state % 2 == 1 && not (is_noted waiting word)

-- The words of the waiting stores, after a store to this word that is written back or not.
abbrev pub waiting_after : Bool → List ℕ → ℕ → List ℕ
waiting_after true waiting word = waiting
waiting_after false waiting word = waiting ++ word ∷ []

-- Which of the executed events are stores that are written back. All stores of the epochs before the storm's are, and
-- none of later epochs. In the storm's own epoch each store is drawn for; the list of words has those to which a store
-- of that epoch waits so far.
abbrev pub storm_flags : ℕ → ℕ → List ℕ → List Event → List Bool
storm_flags state epoch waiting [] = []
storm_flags state zero waiting (Store word value ∷ events) =
    goes_back state waiting word
    ∷ storm_flags (next_state state) zero (waiting_after (goes_back state waiting word) waiting word) events
storm_flags state zero waiting (Barrier ∷ events) = false ∷ replicate (length events) false
storm_flags state (suc epoch) waiting (Store word value ∷ events) = true ∷ storm_flags state (suc epoch) waiting events
storm_flags state (suc epoch) waiting (Barrier ∷ events) = false ∷ storm_flags state epoch waiting events
storm_flags state epoch waiting (CallEnd ∷ events) = false ∷ storm_flags state epoch waiting events

-- The number of events that a storm executes, and its epoch among them.
abbrev pub storm_moment : List Event → ℕ → ℕ
storm_moment events seed = drawn seed % (length events + 1)

abbrev pub storm_epoch : List Event → ℕ → ℕ
storm_epoch taken seed = drawn (next_state seed) % (barriers taken + 1)

-- The flags of a storm whose generator starts with this seed.
abbrev pub flags_from : List Event → ℕ → List Bool
flags_from taken seed = storm_flags (next_state (next_state seed)) (storm_epoch taken seed) [] taken

abbrev pub flags_of_storm : List Event → ℕ → List Bool
flags_of_storm events seed = flags_from (take (storm_moment events seed) events) seed

-- The crash point of a storm.
abbrev pub storm_cut : List Event → ℕ → PowerCut
storm_cut events seed = cut_of events (flags_of_storm events seed)

-- The crash point after this number of events, if the stores of this epoch are drawn for from this state on.
abbrev pub drawn_cut : List Event → ℕ → ℕ → ℕ → PowerCut
drawn_cut events state moment epoch = cut_of events (storm_flags state epoch [] (take moment events))

-- Over these words, the write-back machine reaches what a storm leaves if the stores go back in the order of the log.
abbrev pub RunsToStorm : List ℕ → List Event → ℕ → Type 0
RunsToStorm base events seed = RunsInLogOrder base events (flags_of_storm events seed)

-- ## The rule by which stores are written back

-- The number drawn after this number of other draws.
abbrev pub draw_at : ℕ → ℕ → ℕ
draw_at state zero = drawn state
draw_at state (suc count) = draw_at (next_state state) count

abbrev pub IsOdd : ℕ → Type 0
IsOdd number = number % 2 ≡ 1

-- The event at this index is a store.
abbrev pub IsStoreAt : List Event → ℕ → Type 0
IsStoreAt events which = is_some_store (slice_get events which) ≡ true

-- The property holds of each store of a log, by its index.
abbrev pub OfEachStore : List Event → (ℕ → Type 0) → Type 0
OfEachStore events Holds = (i : ℕ) → IsStoreAt events i → Holds i

-- If the stores of this epoch are drawn for from this state on, the store at this index is written back.
abbrev pub IsWrittenBack : ℕ → ℕ → List Event → ℕ → Type 0
IsWrittenBack state epoch events which = slice_get (storm_flags state epoch [] events) which ≡ Some true

-- If the stores of this epoch are drawn for from this state on, the store at this index is not written back.
abbrev pub IsNotWrittenBack : ℕ → ℕ → List Event → ℕ → Type 0
IsNotWrittenBack state epoch events which = slice_get (storm_flags state epoch [] events) which ≡ Some false

-- If the stores of this epoch are drawn for from this state on, the store at this index is written back exactly if its
-- own draw is odd and each store is written back that must go before it.
abbrev pub GoesByItsDraw : ℕ → ℕ → List Event → ℕ → Type 0
GoesByItsDraw state epoch events which =
    IsWrittenBack state epoch events which
    ↔ (IsOdd (draw_at state (place_in_epoch events which))
    × AreBackBefore events (storm_flags state epoch [] events) which)
