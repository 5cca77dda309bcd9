-- What a storm writes back may be written back: what must come first did.
use Rattle.std.proofs.Common.{◌≡◌, ℕ, zero, suc, ◌<◌, ◌≤◌, inl, inr, Bool, true, false, not, ◌&&◌, ◌||◌, Some, List, [], ◌∷◌, ◌++◌, length, take, drop, replicate, refl, sym, ◌∙◌, ap, subst, arith, eq-eqb, length-append}
use Rattle.std.specs.List.{slice_get}
use Rattle.std.proofs.lemmas.List.{length-replicate, take-append-drop, take-append-le}
use Rattle.std.proofs.lemmas.List.Folds.{list_any-append}
use Rattle.std.proofs.lemmas.Option.{slice_get_within}
use Rattle.std.specs.Prelude.{◌==◌, ◌%◌}
use Rattle.pm_epochs.specs.declared.event.Event.{Event}
use Rattle.pm_epochs.specs.declared.event.Event.TheVariants.{Store, Barrier, CallEnd}
use Rattle.pm_epochs.specs.Log.{barriers}
use Rattle.pm_epochs.specs.Replay.{epoch_of}
use Rattle.pm_steps.specs.WordSet.{is_noted}
use Rattle.pm_steps.specs.Machine.{is_some_store, ComesFirst, IsInOrder}
use Rattle.pm_steps.proofs.Order.{store_is}
use Rattle.pm_steps.proofs.FirstLaws.{none, nothing_there, same_word, not_a_store, comes_first_at, ComesFirst-tail}
use Rattle.bp_replay.specs.Generator.{next_state, drawn}
use Rattle.bp_replay.specs.Storm.{goes_back, waiting_after, storm_flags}

-- ## The order

pub length-storm_flags : (state epoch : ℕ) (waiting : List ℕ) (events : List Event) → length (storm_flags state epoch waiting events) ≡ length events
length-storm_flags state epoch waiting [] = refl
length-storm_flags state zero waiting (Store word value ∷ events) = ap suc (length-storm_flags (next_state state) zero (waiting_after (goes_back state waiting word) waiting word) events)
length-storm_flags state zero waiting (Barrier ∷ events) = ap suc (length-replicate (length events) false)
length-storm_flags state (suc epoch) waiting (Store word value ∷ events) = ap suc (length-storm_flags state (suc epoch) waiting events)
length-storm_flags state (suc epoch) waiting (Barrier ∷ events) = ap suc (length-storm_flags state epoch waiting events)
length-storm_flags state epoch waiting (CallEnd ∷ events) = ap suc (length-storm_flags state epoch waiting events)

pub none_later : {A : Type 0} (count i : ℕ) → slice_get (replicate count false) i ≡ Some true → A
none_later zero i is = nothing_there i is
none_later (suc count) zero is = none is
none_later (suc count) (suc i) is = none_later count i is

storm_stores : (state epoch : ℕ) (waiting : List ℕ) (events : List Event) (i : ℕ) → slice_get (storm_flags state epoch waiting events) i ≡ Some true → is_some_store (slice_get events i) ≡ true
storm_stores state epoch waiting [] i is = nothing_there i is
storm_stores state zero waiting (Store word value ∷ events) zero is = refl
storm_stores state zero waiting (Store word value ∷ events) (suc i) is = storm_stores (next_state state) zero (waiting_after (goes_back state waiting word) waiting word) events i is
storm_stores state zero waiting (Barrier ∷ events) zero is = none is
storm_stores state zero waiting (Barrier ∷ events) (suc i) is = none_later (length events) i is
storm_stores state (suc epoch) waiting (Store word value ∷ events) zero is = refl
storm_stores state (suc epoch) waiting (Store word value ∷ events) (suc i) is = storm_stores state (suc epoch) waiting events i is
storm_stores state (suc epoch) waiting (Barrier ∷ events) zero is = none is
storm_stores state (suc epoch) waiting (Barrier ∷ events) (suc i) is = storm_stores state epoch waiting events i is
storm_stores state epoch waiting (CallEnd ∷ events) zero is = none is
storm_stores state epoch waiting (CallEnd ∷ events) (suc i) is = storm_stores state epoch waiting events i is

-- in the first epoch what is back lies before the first barrier
early : (state : ℕ) (waiting : List ℕ) (events : List Event) (i : ℕ) → slice_get (storm_flags state 0 waiting events) i ≡ Some true → epoch_of events i ≡ 0
early state waiting [] i is = nothing_there i is
early state waiting (Store word value ∷ events) zero is = refl
early state waiting (Store word value ∷ events) (suc i) is = early (next_state state) (waiting_after (goes_back state waiting word) waiting word) events i is
early state waiting (Barrier ∷ events) zero is = refl
early state waiting (Barrier ∷ events) (suc i) is = none_later (length events) i is
early state waiting (CallEnd ∷ events) zero is = refl
early state waiting (CallEnd ∷ events) (suc i) is = early state waiting events i is

and_not : (a b : Bool) → (a && not b) ≡ true → b ≡ false
and_not true true is = cc
and_not true false is = refl
and_not false b is = cc

or_false : (a b : Bool) → (a || b) ≡ false → a ≡ false
or_false true b is = cc
or_false false b is = refl

noted_prefix : (waiting : List ℕ) (place word : ℕ) → is_noted (waiting ++ place ∷ []) word ≡ false → is_noted waiting word ≡ false
noted_prefix waiting place word is = or_false (is_noted waiting word) (is_noted (place ∷ []) word) (sym (list_any-append (λ other. other == word) waiting (place ∷ [])) ∙ is)

noted_before : (flag : Bool) (waiting : List ℕ) (place word : ℕ) → is_noted (waiting_after flag waiting place) word ≡ false → is_noted waiting word ≡ false
noted_before true waiting place word is = is
noted_before false waiting place word is = noted_prefix waiting place word is

-- a store that is back goes to a word for which none waited
pub not_waiting : (state : ℕ) (waiting : List ℕ) (events : List Event) (i word value : ℕ) → slice_get (storm_flags state 0 waiting events) i ≡ Some true → slice_get events i ≡ Some (Store word value) → is_noted waiting word ≡ false
not_waiting state waiting [] i word value is store = nothing_there i is
not_waiting state waiting (Store place other ∷ events) zero word value is store =
    let flag : goes_back state waiting place ≡ true = cc in
    subst (λ w. is_noted waiting w ≡ false) (same_word place other word value store) (and_not (drawn state % 2 == 1) (is_noted waiting place) flag)
not_waiting state waiting (Store place other ∷ events) (suc i) word value is store =
    noted_before (goes_back state waiting place) waiting place word (not_waiting (next_state state) (waiting_after (goes_back state waiting place) waiting place) events i word value is store)
not_waiting state waiting (Barrier ∷ events) zero word value is store = none is
not_waiting state waiting (Barrier ∷ events) (suc i) word value is store = none_later (length events) i is
not_waiting state waiting (CallEnd ∷ events) zero word value is store = none is
not_waiting state waiting (CallEnd ∷ events) (suc i) word value is store = not_waiting state waiting events i word value is store

noted_last : (waiting : List ℕ) (word : ℕ) → is_noted (waiting ++ word ∷ []) word ≡ true
noted_last [] word = rw (eq-eqb word word refl)
noted_last (other ∷ waiting) word = rw (noted_last waiting word) (or_true (other == word))
  where
    or_true : (a : Bool) → (a || true) ≡ true
    or_true true = refl
    or_true false = refl

-- a store after which one that must come later is back
before_back : (flag : Bool) (state : ℕ) (waiting : List ℕ) (word value : ℕ) (events : List Event) (later : ℕ) → slice_get (storm_flags state 0 (waiting_after flag waiting word) events) later ≡ Some true → ComesFirst (Store word value ∷ events) 0 (suc later) → flag ≡ true
before_back true state waiting word value events later is comes = refl
before_back false state waiting word value events later is comes =
    elim comes.must [
      | inl less ↦ absurd (omega (arith, less, early state (waiting ++ word ∷ []) events later is))
      | inr same ↦
          let word_is : word ≡ comes.word = same_word word value comes.first_word comes.first_value comes.first_is ∙ same in
          let free : is_noted (waiting ++ word ∷ []) comes.word ≡ false = not_waiting state (waiting ++ word ∷ []) events later comes.word comes.value is comes.second_is in
          let held : is_noted (waiting ++ word ∷ []) comes.word ≡ true = subst (λ w. is_noted (waiting ++ word ∷ []) w ≡ true) word_is (noted_last waiting word) in
          let clash : true ≡ false = sym held ∙ free in
          cc
    ]

pub storm_first : (state epoch : ℕ) (waiting : List ℕ) (events : List Event) (earlier later : ℕ) → slice_get (storm_flags state epoch waiting events) later ≡ Some true → ComesFirst events earlier later → slice_get (storm_flags state epoch waiting events) earlier ≡ Some true
storm_first state epoch waiting events earlier zero is comes = absurd (omega (arith, comes.before))
storm_first state epoch waiting [] earlier (suc later) is comes = nothing_there (suc later) is
storm_first state zero waiting (Store word value ∷ events) zero (suc later) is comes =
    ap Some (before_back (goes_back state waiting word) (next_state state) waiting word value events later is comes)
storm_first state zero waiting (Store word value ∷ events) (suc earlier) (suc later) is comes =
    storm_first (next_state state) zero (waiting_after (goes_back state waiting word) waiting word) events earlier later is (ComesFirst-tail (Store word value) events earlier later comes)
storm_first state zero waiting (Barrier ∷ events) earlier (suc later) is comes = none_later (length events) later is
storm_first state (suc epoch) waiting (Store word value ∷ events) zero (suc later) is comes = refl
storm_first state (suc epoch) waiting (Store word value ∷ events) (suc earlier) (suc later) is comes = storm_first state (suc epoch) waiting events earlier later is (ComesFirst-tail (Store word value) events earlier later comes)
storm_first state (suc epoch) waiting (Barrier ∷ events) zero (suc later) is comes = not_a_store Barrier comes.first_word comes.first_value (λ w v e. cc) comes.first_is
storm_first state (suc epoch) waiting (Barrier ∷ events) (suc earlier) (suc later) is comes = storm_first state epoch waiting events earlier later is (ComesFirst-tail Barrier events earlier later comes)
storm_first state epoch waiting (CallEnd ∷ events) zero (suc later) is comes = not_a_store CallEnd comes.first_word comes.first_value (λ w v e. cc) comes.first_is
storm_first state epoch waiting (CallEnd ∷ events) (suc earlier) (suc later) is comes = storm_first state epoch waiting events earlier later is (ComesFirst-tail CallEnd events earlier later comes)

pub in_order_taken : (state epoch : ℕ) (events : List Event) → IsInOrder events (storm_flags state epoch [] events)
in_order_taken state epoch events = record {
  few = omega (arith, length-storm_flags state epoch [] events);
  stores = storm_stores state epoch [] events;
  first = storm_first state epoch [] events;
}

-- ## Over the whole log

get_prefix : (prefix rest : List Event) (i : ℕ) → i < length prefix → slice_get (prefix ++ rest) i ≡ slice_get prefix i
get_prefix [] rest i low = absurd (omega arith)
get_prefix (event ∷ prefix) rest zero low = refl
get_prefix (event ∷ prefix) rest (suc i) low = get_prefix prefix rest i (omega arith)

epoch_of_prefix : (prefix rest : List Event) (i : ℕ) → i ≤ length prefix → epoch_of (prefix ++ rest) i ≡ epoch_of prefix i
epoch_of_prefix prefix rest i low = ap barriers (take-append-le i prefix rest low)

in_order_prefix : (prefix rest : List Event) (back : List Bool) → IsInOrder prefix back → IsInOrder (prefix ++ rest) back
in_order_prefix prefix rest back order = record {
  few = omega (arith, order.few, length-append prefix rest);
  stores = λ i is.
      let store = store_is (slice_get prefix i) (order.stores i is) in
      rw (get_prefix prefix rest i (slice_get_within prefix i (Store store.0 store.1) store.2)) (order.stores i is);
  first = λ earlier later is comes.
      let store = store_is (slice_get prefix later) (order.stores later is) in
      let low : later < length prefix = slice_get_within prefix later (Store store.0 store.1) store.2 in
      let lower : earlier < length prefix = omega (arith, low, comes.before) in
      order.first earlier later is (comes_first_at (prefix ++ rest) prefix earlier later earlier later comes comes.before
      (sym (get_prefix prefix rest earlier lower)) (sym (get_prefix prefix rest later low))
      (λ less. omega (arith, less, epoch_of_prefix prefix rest earlier (omega (arith, lower)), epoch_of_prefix prefix rest later (omega (arith, low)))));
}

pub in_order_storm : (state epoch moment : ℕ) (events : List Event) → IsInOrder events (storm_flags state epoch [] (take moment events))
in_order_storm state epoch moment events =
    subst (λ es. IsInOrder es (storm_flags state epoch [] (take moment events))) (take-append-drop moment events)
    (in_order_prefix (take moment events) (drop moment events) (storm_flags state epoch [] (take moment events)) (in_order_taken state epoch (take moment events)))
