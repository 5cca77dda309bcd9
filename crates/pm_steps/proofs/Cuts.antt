-- The cut at which a machine stands keeps the stores that are back.
use Rattle.std.proofs.Common.{◌≡◌, ℕ, zero, suc, ◌≤◌, inl, Bool, true, false, Some, List, [], ◌∷◌, length, take, refl, sym, ◌∙◌, ap, arith}
use Rattle.std.specs.List.{slice_get, items_where_true}
use Rattle.pm_epochs.specs.declared.event.Event.{Event}
use Rattle.pm_epochs.specs.declared.event.Event.TheVariants.{Store, Barrier, CallEnd}
use Rattle.pm_epochs.specs.Log.{words_after, barriers, epoch_stores}
use Rattle.pm_epochs.specs.Replay.{IsRight, stores_of, kept_stores, call_ends_of, replay, kept_calls, after_calls, epoch_of}
use Rattle.pm_epochs.proofs.Cuts.{stores_of_none, kept_stores_right}
use Rattle.pm_epochs.specs.Crash.{Likeness, CrashRight}
use Rattle.pm_steps.specs.Machine.{MachineState, MachineStep, machine_over, StepsTo, is_some_store, IsInOrder, open_epoch, epoch_flags, waiting_call_ends, cut_of}
use Rattle.pm_steps.proofs.FirstLaws.{ComesFirst-after}
use Rattle.pm_steps.proofs.Order.{store_is, IsReached, reached}

-- ## The order of the events after one

IsInOrder-tail : (event : Event) (events : List Event) (flag : Bool) (back : List Bool) → IsInOrder (event ∷ events) (flag ∷ back) → IsInOrder events back
IsInOrder-tail event events flag back order = record {
  few = omega (arith, order.few);
  stores = λ i is. order.stores (suc i) is;
  first = λ earlier later is comes. order.first (suc earlier) (suc later) is (ComesFirst-after event events earlier later comes);
}

-- ## The first epoch

-- what is back is a store before the first barrier
record IsFirstEpoch (events : List Event) (back : List Bool) : Type 0 where
  stores : (i : ℕ) → slice_get back i ≡ Some true → is_some_store (slice_get events i) ≡ true
  early : (i : ℕ) → slice_get back i ≡ Some true → epoch_of events i ≡ 0

none_back : (back : List Bool) (events : List Event) → ((i : ℕ) → slice_get back i ≡ Some true → ⊥) → items_where_true back events ≡ []
none_back [] events none = refl
none_back (flag ∷ back) [] none = refl
none_back (true ∷ back) (event ∷ events) none = absurd (none 0 refl)
none_back (false ∷ back) (event ∷ events) none = none_back back events (λ i is. none (suc i) is)

first_epoch : (events : List Event) (back : List Bool) → IsFirstEpoch events back → stores_of 0 (epoch_flags 0 events back) events ≡ items_where_true back events
first_epoch [] [] first = refl
first_epoch [] (flag ∷ back) first = refl
first_epoch (event ∷ events) [] first = stores_of_none (event ∷ events)
first_epoch (Store word value ∷ events) (true ∷ back) first = ap (λ es. Store word value ∷ es) (first_epoch events back (record { stores = λ i is. first.stores (suc i) is; early = λ i is. first.early (suc i) is }))
first_epoch (Store word value ∷ events) (false ∷ back) first = first_epoch events back (record { stores = λ i is. first.stores (suc i) is; early = λ i is. first.early (suc i) is })
first_epoch (Barrier ∷ events) (true ∷ back) first = let is = first.stores 0 refl in cc
first_epoch (Barrier ∷ events) (false ∷ back) first = sym (none_back back events (λ i is. absurd (omega (arith, first.early (suc i) is))))
first_epoch (CallEnd ∷ events) (true ∷ back) first = let is = first.stores 0 refl in cc
first_epoch (CallEnd ∷ events) (false ∷ back) first = first_epoch events back (record { stores = λ i is. first.stores (suc i) is; early = λ i is. first.early (suc i) is })

-- after a store that waits, what is back is of its epoch
after_waiting : (word value : ℕ) (events : List Event) (back : List Bool) → IsInOrder (Store word value ∷ events) (false ∷ back) → IsFirstEpoch events back
after_waiting word value events back order = record {
  stores = λ i is. order.stores (suc i) is;
  early = λ i is. early i is (epoch_of events i) refl;
}
  where
    early : (i : ℕ) → slice_get back i ≡ Some true → (epoch : ℕ) → epoch ≡ epoch_of events i → epoch_of events i ≡ 0
    early i is zero e = sym e
    early i is (suc epoch) e =
        let store = store_is (slice_get events i) (order.stores (suc i) is) in
        let came : Some false ≡ Some true = order.first 0 (suc i) is (record { before = omega arith; first_word = word; first_value = value; word = store.0; value = store.1; first_is = refl; second_is = store.2; must = inl (omega (arith, e)) }) in
        cc

-- ## The cut

kept_first : (word value epoch : ℕ) (events : List Event) (back : List Bool) (kept : List Event) → stores_of epoch (epoch_flags epoch events back) events ≡ kept → stores_of epoch (epoch_flags epoch (Store word value ∷ events) (true ∷ back)) (Store word value ∷ events) ≡ Store word value ∷ kept
kept_first word value zero events back kept is = ap (λ es. Store word value ∷ es) is
kept_first word value (suc epoch) events back kept is = ap (λ es. Store word value ∷ es) is

pub stores_of_open : (events : List Event) (back : List Bool) → IsInOrder events back → stores_of (open_epoch events back) (epoch_flags (open_epoch events back) events back) events ≡ items_where_true back events
stores_of_open [] [] order = refl
stores_of_open [] (flag ∷ back) order = refl
stores_of_open (event ∷ events) [] order = stores_of_none (event ∷ events)
stores_of_open (Store word value ∷ events) (true ∷ back) order = kept_first word value (open_epoch events back) events back (items_where_true back events) (stores_of_open events back (IsInOrder-tail (Store word value) events true back order))
stores_of_open (Store word value ∷ events) (false ∷ back) order = first_epoch events back (after_waiting word value events back order)
stores_of_open (Barrier ∷ events) (true ∷ back) order = let is = order.stores 0 refl in cc
stores_of_open (Barrier ∷ events) (false ∷ back) order = stores_of_open events back (IsInOrder-tail Barrier events false back order)
stores_of_open (CallEnd ∷ events) (true ∷ back) order = let is = order.stores 0 refl in cc
stores_of_open (CallEnd ∷ events) (false ∷ back) order = stores_of_open events back (IsInOrder-tail CallEnd events false back order)

open_epoch-le : (events : List Event) (back : List Bool) → open_epoch events back ≤ barriers (take (length back) events)
open_epoch-le [] back = omega arith
open_epoch-le (event ∷ events) [] = omega arith
open_epoch-le (Store word value ∷ events) (true ∷ back) = open_epoch-le events back
open_epoch-le (Store word value ∷ events) (false ∷ back) = omega arith
open_epoch-le (Barrier ∷ events) (flag ∷ back) = let low = open_epoch-le events back in omega arith
open_epoch-le (CallEnd ∷ events) (flag ∷ back) = open_epoch-le events back

length-epoch_flags : (epoch : ℕ) (events : List Event) (back : List Bool) → length (epoch_flags epoch events back) ≤ epoch_stores epoch (take (length back) events)
length-epoch_flags epoch [] back = omega arith
length-epoch_flags epoch (event ∷ events) [] = omega arith
length-epoch_flags zero (Store word value ∷ events) (flag ∷ back) = let low = length-epoch_flags zero events back in omega arith
length-epoch_flags (suc epoch) (Store word value ∷ events) (flag ∷ back) = length-epoch_flags (suc epoch) events back
length-epoch_flags zero (Barrier ∷ events) (flag ∷ back) = omega arith
length-epoch_flags (suc epoch) (Barrier ∷ events) (flag ∷ back) = length-epoch_flags epoch events back
length-epoch_flags epoch (CallEnd ∷ events) (flag ∷ back) = length-epoch_flags epoch events back

pub right_open : (events : List Event) (back : List Bool) → IsInOrder events back → IsRight events (cut_of events back)
right_open events back order = record {
  moment = order.few;
  epoch = open_epoch-le events back;
  mask = length-epoch_flags (open_epoch events back) events back;
}

pub kept_stores_open : (events : List Event) (back : List Bool) → IsInOrder events back → kept_stores events (cut_of events back) ≡ items_where_true back events
kept_stores_open events back order = kept_stores_right events (cut_of events back) (right_open events back order) ∙ stores_of_open events back order

-- after any steps the memory is a replay
pub run_right : (base : List ℕ) (events : List Event) (state : MachineState) → IsReached base events state → IsRight events (cut_of events state.back)
run_right base events state found = right_open events state.back found.order

pub run_replay : (base : List ℕ) (events : List Event) (state : MachineState) → IsReached base events state → state.words ≡ replay base events (cut_of events state.back)
run_replay base events state found = found.words ∙ ap (words_after base) (sym (kept_stores_open events state.back found.order))

-- ## The calls

waiting_call_ends-none : (events : List Event) → waiting_call_ends events [] ≡ call_ends_of 0 [] events
waiting_call_ends-none [] = refl
waiting_call_ends-none (Store word value ∷ events) = refl
waiting_call_ends-none (Barrier ∷ events) = waiting_call_ends-none events
waiting_call_ends-none (CallEnd ∷ events) = ap suc (waiting_call_ends-none events)

call_ends_first : (word value epoch : ℕ) (events : List Event) (back : List Bool) → call_ends_of epoch (epoch_flags epoch (Store word value ∷ events) (true ∷ back)) (Store word value ∷ events) ≡ call_ends_of epoch (epoch_flags epoch events back) events
call_ends_first word value zero events back = refl
call_ends_first word value (suc epoch) events back = refl

pub call_ends_of_open : (events : List Event) (back : List Bool) → call_ends_of (open_epoch events back) (epoch_flags (open_epoch events back) events back) events ≡ waiting_call_ends events back
call_ends_of_open [] back = refl
call_ends_of_open (event ∷ events) [] = sym (waiting_call_ends-none (event ∷ events))
call_ends_of_open (Store word value ∷ events) (true ∷ back) = call_ends_first word value (open_epoch events back) events back ∙ call_ends_of_open events back
call_ends_of_open (Store word value ∷ events) (false ∷ back) = refl
call_ends_of_open (Barrier ∷ events) (flag ∷ back) = call_ends_of_open events back
call_ends_of_open (CallEnd ∷ events) (flag ∷ back) = ap suc (call_ends_of_open events back)

-- over a log that is right, the memory is like what the kept calls had made
pub run_right_log : (Same : Likeness) (base : List ℕ) (events : List Event) (steps : List MachineStep) (state : MachineState) → CrashRight Same base events → StepsTo events (machine_over base) steps state → Same state.words (after_calls base events (kept_calls events (cut_of events state.back)))
run_right_log Same base events steps state right runs =
    let found = reached base events steps state runs in
    rw (run_replay base events state found) (right.each (cut_of events state.back) (run_right base events state found))
