-- The order in which stores are written back, and what the memory is.
use Rattle.std.proofs.Common.{◌≡◌, ◌≢◌, ℕ, zero, suc, ◌<◌, ◌⊎◌, inl, inr, Bool, true, false, Option, Some, None, List, [], ◌∷◌, ◌++◌, length, set, refl, sym, ◌∙◌, ap, subst, arith}
use Rattle.std.specs.List.{slice_get, items_where_true}
use Rattle.std.proofs.lemmas.List.{length-append, length-set, set_comm}
use Rattle.pm_epochs.specs.declared.event.Event.{Event}
use Rattle.pm_epochs.specs.declared.event.Event.TheVariants.{Store, Barrier, CallEnd}
use Rattle.pm_epochs.specs.Log.{words_after}
use Rattle.pm_steps.specs.Machine.{MachineState, machine_over, MachineStep, is_some_store, ComesFirst, IsInOrder, MayGoBack, Allowed, state_after, StepsTo}
use Rattle.pm_steps.specs.Machine.MachineStep.{Execute, WriteBack}

-- what a test of an event says
pub store_is : (event : Option Event) → is_some_store event ≡ true → (word : ℕ) × (value : ℕ) × (event ≡ Some (Store word value))
store_is None is = cc
store_is (Some (Store word value)) is = (word, value, refl)
store_is (Some Barrier) is = cc
store_is (Some CallEnd) is = cc

-- ## Flags

get_push_old : (back : List Bool) (flag : Bool) (i : ℕ) (b : Bool) → slice_get back i ≡ Some b → slice_get (back ++ flag ∷ []) i ≡ Some b
get_push_old [] flag i b is = cc
get_push_old (x ∷ back) flag zero b is = is
get_push_old (x ∷ back) flag (suc i) b is = get_push_old back flag i b is

get_push_true : (back : List Bool) (i : ℕ) → slice_get (back ++ false ∷ []) i ≡ Some true → slice_get back i ≡ Some true
get_push_true [] zero is = cc
get_push_true [] (suc i) is = cc
get_push_true (x ∷ back) zero is = is
get_push_true (x ∷ back) (suc i) is = get_push_true back i is

get_set_true : (back : List Bool) (i j : ℕ) → slice_get back j ≡ Some true → slice_get (set back i true) j ≡ Some true
get_set_true [] i j is = is
get_set_true (x ∷ back) zero zero is = refl
get_set_true (x ∷ back) zero (suc j) is = is
get_set_true (x ∷ back) (suc i) zero is = is
get_set_true (x ∷ back) (suc i) (suc j) is = get_set_true back i j is

-- a flag that is set is that one, or was set before
get_set_cases : (back : List Bool) (i j : ℕ) → slice_get (set back i true) j ≡ Some true → (j ≡ i) ⊎ (slice_get back j ≡ Some true)
get_set_cases [] i j is = inr is
get_set_cases (x ∷ back) zero zero is = inl refl
get_set_cases (x ∷ back) zero (suc j) is = inr is
get_set_cases (x ∷ back) (suc i) zero is = inr is
get_set_cases (x ∷ back) (suc i) (suc j) is = elim (get_set_cases back i j is) [ inl e ↦ inl (ap suc e) | inr h ↦ inr h ]

-- ## Each step keeps the order

in_order_start : (events : List Event) → IsInOrder events []
in_order_start events = record { few = omega arith; stores = λ i is. cc; first = λ earlier later is comes. cc }

pub in_order_execute : (events : List Event) (back : List Bool) → IsInOrder events back → length back < length events → IsInOrder events (back ++ false ∷ [])
in_order_execute events back order more = record {
  few = omega (arith, length-append back (false ∷ []));
  stores = λ i is. order.stores i (get_push_true back i is);
  first = λ earlier later is comes. get_push_old back false earlier true (order.first earlier later (get_push_true back later is) comes);
}

pub in_order_back : (events : List Event) (back : List Bool) (which : ℕ) → IsInOrder events back → MayGoBack events back which → IsInOrder events (set back which true)
in_order_back events back which order ready = record {
  few = omega (arith, order.few, length-set back which true);
  stores = λ i is. elim (get_set_cases back which i is) [
    | inl e ↦ ap is_some_store (ap (slice_get events) e ∙ ready.store)
    | inr h ↦ order.stores i h
  ];
  first = λ earlier later is comes. elim (get_set_cases back which later is) [
    | inl e ↦ get_set_true back which earlier (ready.first earlier (subst (ComesFirst events earlier) e comes))
    | inr h ↦ get_set_true back which earlier (order.first earlier later h comes)
  ];
}

-- ## The memory is what the stores that are back leave, in the order of the log

-- no store to the word among those that are back
abbrev NoneTo : List Event → List Bool → ℕ → Type 0
NoneTo events back word = (j value : ℕ) → slice_get back j ≡ Some true → slice_get events j ≡ Some (Store word value) → ⊥

NoneTo-tail : (event : Event) (events : List Event) (flag : Bool) (back : List Bool) (word : ℕ) → NoneTo (event ∷ events) (flag ∷ back) word → NoneTo events back word
NoneTo-tail event events flag back word none = λ j value is store. none (suc j) value is store

words_after-set : (events : List Event) (back : List Bool) (words : List ℕ) (word value : ℕ) → NoneTo events back word → words_after (set words word value) (items_where_true back events) ≡ set (words_after words (items_where_true back events)) word value
words_after-set events [] words word value none = refl
words_after-set [] (flag ∷ back) words word value none = refl
words_after-set (Store place other ∷ events) (true ∷ back) words word value none =
    let differ : word ≢ place = λ e. none 0 other refl (ap (λ w. Some (Store w other)) (sym e)) in
    ap (λ ws. words_after ws (items_where_true back events)) (set_comm words word place value other differ)
    ∙ words_after-set events back (set words place other) word value (NoneTo-tail (Store place other) events true back word none)
words_after-set (Store place other ∷ events) (false ∷ back) words word value none = words_after-set events back words word value (NoneTo-tail (Store place other) events false back word none)
words_after-set (Barrier ∷ events) (true ∷ back) words word value none = words_after-set events back words word value (NoneTo-tail Barrier events true back word none)
words_after-set (Barrier ∷ events) (false ∷ back) words word value none = words_after-set events back words word value (NoneTo-tail Barrier events false back word none)
words_after-set (CallEnd ∷ events) (true ∷ back) words word value none = words_after-set events back words word value (NoneTo-tail CallEnd events true back word none)
words_after-set (CallEnd ∷ events) (false ∷ back) words word value none = words_after-set events back words word value (NoneTo-tail CallEnd events false back word none)

-- no store to the word after a place is back
abbrev NoneAfter : List Event → List Bool → ℕ → ℕ → Type 0
NoneAfter events back which word = (j other : ℕ) → which < j → slice_get back j ≡ Some true → slice_get events j ≡ Some (Store word other) → ⊥

NoneAfter-tail : (event : Event) (events : List Event) (flag : Bool) (back : List Bool) (which word : ℕ)
    → NoneAfter (event ∷ events) (flag ∷ back) (suc which) word → NoneAfter events back which word
NoneAfter-tail event events flag back which word none = λ j other low is at. none (suc j) other (omega arith) is at

-- one more store is back, and none after it to its word was
words_after-back : (events : List Event) (back : List Bool) (words : List ℕ) (which word value : ℕ)
    → slice_get events which ≡ Some (Store word value) → slice_get back which ≡ Some false → NoneAfter events back which word
    → words_after words (items_where_true (set back which true) events) ≡ set (words_after words (items_where_true back events)) word value
words_after-back [] back words which word value store waits none = cc
words_after-back (event ∷ events) [] words which word value store waits none = cc
words_after-back (event ∷ events) (flag ∷ back) words zero word value store waits none =
    let event_is : event ≡ Store word value = cc in
    let flag_is : flag ≡ false = cc in
    rw (event_is, flag_is) (words_after-set events back words word value (λ j other is at. none (suc j) other (omega arith) is at))
words_after-back (Store place other ∷ events) (true ∷ back) words (suc which) word value store waits none =
    words_after-back events back (set words place other) which word value store waits (NoneAfter-tail (Store place other) events true back which word none)
words_after-back (Store place other ∷ events) (false ∷ back) words (suc which) word value store waits none =
    words_after-back events back words which word value store waits (NoneAfter-tail (Store place other) events false back which word none)
words_after-back (Barrier ∷ events) (true ∷ back) words (suc which) word value store waits none =
    words_after-back events back words which word value store waits (NoneAfter-tail Barrier events true back which word none)
words_after-back (Barrier ∷ events) (false ∷ back) words (suc which) word value store waits none =
    words_after-back events back words which word value store waits (NoneAfter-tail Barrier events false back which word none)
words_after-back (CallEnd ∷ events) (true ∷ back) words (suc which) word value store waits none =
    words_after-back events back words which word value store waits (NoneAfter-tail CallEnd events true back which word none)
words_after-back (CallEnd ∷ events) (false ∷ back) words (suc which) word value store waits none =
    words_after-back events back words which word value store waits (NoneAfter-tail CallEnd events false back which word none)

items_where_true-push : (back : List Bool) (events : List Event) → items_where_true (back ++ false ∷ []) events ≡ items_where_true back events
items_where_true-push [] [] = refl
items_where_true-push [] (event ∷ events) = refl
items_where_true-push (true ∷ back) [] = refl
items_where_true-push (false ∷ back) [] = refl
items_where_true-push (true ∷ back) (event ∷ events) = ap (λ es. event ∷ es) (items_where_true-push back events)
items_where_true-push (false ∷ back) (event ∷ events) = items_where_true-push back events

-- a store that waits has none after it of its word that is back
none_after : (events : List Event) (back : List Bool) (which : ℕ) → IsInOrder events back → (ready : MayGoBack events back which) → (j other : ℕ) → which < j → slice_get back j ≡ Some true → slice_get events j ≡ Some (Store ready.word other) → ⊥
none_after events back which order ready j other low is store =
    let came = order.first which j is (record { before = low; first_word = ready.word; first_value = ready.value; word = ready.word; value = other; first_is = ready.store; second_is = store; must = inr refl }) in
    let differ : Some false ≡ Some true = sym ready.waits ∙ came in
    cc

pub record IsReached (base : List ℕ) (events : List Event) (state : MachineState) : Type 0 where
  pub order : IsInOrder events state.back
  pub words : state.words ≡ words_after base (items_where_true state.back events)

reached_step : (base : List ℕ) (events : List Event) (state : MachineState) (step : MachineStep) → IsReached base events state → Allowed events state.back step → IsReached base events (state_after events state step)
reached_step base events state Execute reached allowed = record {
  order = in_order_execute events state.back reached.order allowed;
  words = reached.words ∙ ap (words_after base) (sym (items_where_true-push state.back events));
}
reached_step base events state (WriteBack which) reached allowed = rw allowed.store (record {
  order = in_order_back events state.back which reached.order allowed;
  words = ap (λ ws. set ws allowed.word allowed.value) reached.words
      ∙ sym (words_after-back events state.back base which allowed.word allowed.value allowed.store allowed.waits (none_after events state.back which reached.order allowed));
})

pub reached_run : (base : List ℕ) (events : List Event) (old : MachineState) (steps : List MachineStep) (new : MachineState) → IsReached base events old → StepsTo events old steps new → IsReached base events new
reached_run base events old [] new reached runs = subst (IsReached base events) runs reached
reached_run base events old (step ∷ steps) new reached runs = reached_run base events (state_after events old step) steps new (reached_step base events old step reached runs.0) runs.1

pub reached : (base : List ℕ) (events : List Event) (steps : List MachineStep) (state : MachineState) → StepsTo events (machine_over base) steps state → IsReached base events state
reached base events steps state runs = reached_run base events (machine_over base) steps state (record { order = in_order_start events; words = refl }) runs
