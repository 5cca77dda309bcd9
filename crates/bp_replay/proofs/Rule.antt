-- The stores of a storm go back by the machine's own rule.
use Rattle.std.proofs.Common.{◌≡◌, ◌≢◌, ℕ, zero, suc, ◌<◌, ◌%◌, inr, Bool, true, false, not, ◌&&◌, Some, List, [], ◌∷◌, length, take, replicate, refl, sym, ◌∙◌, ap, subst, arith, eq-eqb}
use Rattle.std.specs.List.{slice_get}
use Rattle.std.specs.Prelude.{◌==◌, ◌↔◌}
use Rattle.std.proofs.lemmas.Bool.{eqb-true, ne_eqb}
use Rattle.std.proofs.lemmas.List.Folds.{list_any-append}
use Rattle.pm_epochs.specs.declared.event.Event.{Event}
use Rattle.pm_epochs.specs.declared.event.Event.TheVariants.{Store, Barrier, CallEnd}
use Rattle.pm_epochs.specs.Log.{epoch_stores}
use Rattle.pm_epochs.specs.Replay.{IsRight, epoch_of, place_in_epoch}
use Rattle.pm_steps.specs.WordSet.{is_noted}
use Rattle.pm_steps.specs.Machine.{is_some_store, IsInOrder}
use Rattle.pm_steps.specs.Runs.{AreBackBefore}
use Rattle.pm_steps.proofs.Order.{store_is}
use Rattle.pm_steps.proofs.Cuts.{right_open}
use Rattle.pm_steps.proofs.FirstLaws.{none, nothing_there, same_word, ComesFirst-after}
use Rattle.pm_steps.proofs.Reaching.{reached_in_log_order}
use Rattle.bp_replay.specs.Generator.{next_state, drawn}
use Rattle.bp_replay.specs.Storm.{goes_back, waiting_after, storm_flags, storm_moment, storm_epoch, flags_of_storm, storm_cut, draw_at, IsOdd, IsStoreAt, RunsToStorm}
use Rattle.bp_replay.proofs.Storms.{in_order_storm, none_later, storm_first}

in_order_flags : (events : List Event) (seed : ℕ) → IsInOrder events (flags_of_storm events seed)
in_order_flags events seed = in_order_storm (next_state (next_state seed)) (storm_epoch (take (storm_moment events seed) events) seed) (storm_moment events seed) events

pub right_storm : (events : List Event) (seed : ℕ) → IsRight events (storm_cut events seed)
right_storm events seed = right_open events (flags_of_storm events seed) (in_order_flags events seed)

pub storm_runs : (base : List ℕ) (events : List Event) (seed : ℕ) → RunsToStorm base events seed
storm_runs base events seed = reached_in_log_order base events (flags_of_storm events seed) (in_order_flags events seed)

-- ## Other epochs

no_store : {A : Type 0} → false ≡ true → A
no_store is = absurd (let no : false ≢ true = λ e. cc in no is)

no_event : {A : Type 0} (i : ℕ) → is_some_store (slice_get {X = Event} [] i) ≡ true → A
no_event i is = absurd (let no : (is_some_store (slice_get {X = Event} [] i) ≡ true) → ⊥ = λ e. cc in no is)

pub all_earlier : (state epoch : ℕ) (events : List Event) (which : ℕ) → IsStoreAt events which → epoch_of events which < epoch → slice_get (storm_flags state epoch [] events) which ≡ Some true
all_earlier state zero events which store less = absurd (omega arith)
all_earlier state (suc epoch) [] which store less = no_event which store
all_earlier state (suc epoch) (Store word value ∷ events) zero store less = refl
all_earlier state (suc epoch) (Store word value ∷ events) (suc which) store less = all_earlier state (suc epoch) events which store less
all_earlier state (suc epoch) (Barrier ∷ events) zero store less = no_store store
all_earlier state (suc epoch) (Barrier ∷ events) (suc which) store less = all_earlier state epoch events which store (omega arith)
all_earlier state (suc epoch) (CallEnd ∷ events) zero store less = no_store store
all_earlier state (suc epoch) (CallEnd ∷ events) (suc which) store less = all_earlier state (suc epoch) events which store less

all_false : (events : List Event) (which : ℕ) → IsStoreAt events which → slice_get (replicate (length events) false) which ≡ Some false
all_false [] which store = no_event which store
all_false (event ∷ events) zero store = refl
all_false (event ∷ events) (suc which) store = all_false events which store

none_after_own : (state : ℕ) (waiting : List ℕ) (events : List Event) (which : ℕ) → IsStoreAt events which → 0 < epoch_of events which → slice_get (storm_flags state 0 waiting events) which ≡ Some false
none_after_own state waiting [] which store more = no_event which store
none_after_own state waiting (Store word value ∷ events) zero store more = absurd (omega arith)
none_after_own state waiting (Store word value ∷ events) (suc which) store more = none_after_own (next_state state) (waiting_after (goes_back state waiting word) waiting word) events which store more
none_after_own state waiting (Barrier ∷ events) zero store more = refl
none_after_own state waiting (Barrier ∷ events) (suc which) store more = all_false events which store
none_after_own state waiting (CallEnd ∷ events) zero store more = refl
none_after_own state waiting (CallEnd ∷ events) (suc which) store more = none_after_own state waiting events which store more

pub none_later_than : (state epoch : ℕ) (events : List Event) (which : ℕ) → IsStoreAt events which → epoch < epoch_of events which → slice_get (storm_flags state epoch [] events) which ≡ Some false
none_later_than state zero events which store more = none_after_own state [] events which store more
none_later_than state (suc epoch) [] which store more = no_event which store
none_later_than state (suc epoch) (Store word value ∷ events) zero store more = absurd (omega arith)
none_later_than state (suc epoch) (Store word value ∷ events) (suc which) store more = none_later_than state (suc epoch) events which store more
none_later_than state (suc epoch) (Barrier ∷ events) zero store more = refl
none_later_than state (suc epoch) (Barrier ∷ events) (suc which) store more = none_later_than state epoch events which store (omega arith)
none_later_than state (suc epoch) (CallEnd ∷ events) zero store more = refl
none_later_than state (suc epoch) (CallEnd ∷ events) (suc which) store more = none_later_than state (suc epoch) events which store more

-- ## Its own epoch

and_left : (a b : Bool) → (a && b) ≡ true → a ≡ true
and_left true b is = refl
and_left false b is = is

-- a store that is back has an odd draw
odd_back : (state : ℕ) (waiting : List ℕ) (events : List Event) (which : ℕ) → slice_get (storm_flags state 0 waiting events) which ≡ Some true → IsOdd (draw_at state (epoch_stores 0 (take which events)))
odd_back state waiting [] which is = nothing_there which is
odd_back state waiting (Store word value ∷ events) zero is =
    let flag : goes_back state waiting word ≡ true = cc in
    eqb-true (drawn state % 2) 1 (and_left (drawn state % 2 == 1) (not (is_noted waiting word)) flag)
odd_back state waiting (Store word value ∷ events) (suc which) is = odd_back (next_state state) (waiting_after (goes_back state waiting word) waiting word) events which is
odd_back state waiting (Barrier ∷ events) zero is = none is
odd_back state waiting (Barrier ∷ events) (suc which) is = none_later (length events) which is
odd_back state waiting (CallEnd ∷ events) zero is = none is
odd_back state waiting (CallEnd ∷ events) (suc which) is = odd_back state waiting events which is

odd_own : (state epoch : ℕ) (events : List Event) (which : ℕ) → epoch_of events which ≡ epoch → slice_get (storm_flags state epoch [] events) which ≡ Some true → IsOdd (draw_at state (epoch_stores epoch (take which events)))
odd_own state zero events which own is = odd_back state [] events which is
odd_own state (suc epoch) [] which own is = nothing_there which is
odd_own state (suc epoch) (Store word value ∷ events) zero own is = absurd (omega arith)
odd_own state (suc epoch) (Store word value ∷ events) (suc which) own is = odd_own state (suc epoch) events which own is
odd_own state (suc epoch) (Barrier ∷ events) zero own is = none is
odd_own state (suc epoch) (Barrier ∷ events) (suc which) own is = odd_own state epoch events which (omega arith) is
odd_own state (suc epoch) (CallEnd ∷ events) zero own is = none is
odd_own state (suc epoch) (CallEnd ∷ events) (suc which) own is = odd_own state (suc epoch) events which own is

both : (a b : Bool) → a ≡ true → b ≡ false → (a && not b) ≡ true
both true true odd free = cc
both true false odd free = refl
both false b odd free = cc

noted_other : (flag : Bool) (waiting : List ℕ) (place word : ℕ) → (flag ≡ false → place ≢ word) → is_noted waiting word ≡ false → is_noted (waiting_after flag waiting place) word ≡ false
noted_other true waiting place word differ free = free
noted_other false waiting place word differ free =
    list_any-append (λ other. other == word) waiting (place ∷ [])
    ∙ rw (free, ne_eqb place word (differ refl))

-- a store whose draw is odd, and that may go, is back
may_back : (state : ℕ) (waiting : List ℕ) (events : List Event) (which word value : ℕ) → slice_get events which ≡ Some (Store word value) → epoch_of events which ≡ 0 → IsOdd (draw_at state (epoch_stores 0 (take which events))) → is_noted waiting word ≡ false
    → AreBackBefore events (storm_flags state 0 waiting events) which → slice_get (storm_flags state 0 waiting events) which ≡ Some true
may_back state waiting [] which word value store own odd free may = cc
may_back state waiting (Store place other ∷ events) zero word value store own odd free may =
    let free_here : is_noted waiting place ≡ false = subst (λ w. is_noted waiting w ≡ false) (sym (same_word place other word value store)) free in
    ap Some (both (drawn state % 2 == 1) (is_noted waiting place) (eq-eqb (drawn state % 2) 1 odd) free_here)
may_back state waiting (Store place other ∷ events) (suc which) word value store own odd free may =
    let flag = goes_back state waiting place in
    let differ : flag ≡ false → place ≢ word = λ waits same.
    let went : Some flag ≡ Some true = may 0 (record {
      before = omega arith;
      first_word = place;
      first_value = other;
      word = word;
      value = value;
      first_is = refl;
      second_is = store;
      must = inr same;
    }) in
    no_store (sym waits ∙ (let e : flag ≡ true = cc in e)) in
    may_back (next_state state) (waiting_after flag waiting place) events which word value store own odd (noted_other flag waiting place word differ free)
    (λ earlier comes. may (suc earlier) (ComesFirst-after (Store place other) events earlier which comes))
may_back state waiting (Barrier ∷ events) zero word value store own odd free may = cc
may_back state waiting (Barrier ∷ events) (suc which) word value store own odd free may = absurd (omega arith)
may_back state waiting (CallEnd ∷ events) zero word value store own odd free may = cc
may_back state waiting (CallEnd ∷ events) (suc which) word value store own odd free may =
    may_back state waiting events which word value store own odd free (λ earlier comes. may (suc earlier) (ComesFirst-after CallEnd events earlier which comes))

may_own : (state epoch : ℕ) (events : List Event) (which word value : ℕ) → slice_get events which ≡ Some (Store word value) → epoch_of events which ≡ epoch → IsOdd (draw_at state (epoch_stores epoch (take which events)))
    → AreBackBefore events (storm_flags state epoch [] events) which → slice_get (storm_flags state epoch [] events) which ≡ Some true
may_own state zero events which word value store own odd may = may_back state [] events which word value store own odd refl may
may_own state (suc epoch) [] which word value store own odd may = cc
may_own state (suc epoch) (Store place other ∷ events) zero word value store own odd may = absurd (omega arith)
may_own state (suc epoch) (Store place other ∷ events) (suc which) word value store own odd may =
    may_own state (suc epoch) events which word value store own odd (λ earlier comes. may (suc earlier) (ComesFirst-after (Store place other) events earlier which comes))
may_own state (suc epoch) (Barrier ∷ events) zero word value store own odd may = absurd (omega arith)
may_own state (suc epoch) (Barrier ∷ events) (suc which) word value store own odd may =
    may_own state epoch events which word value store (omega arith) odd (λ earlier comes. may (suc earlier) (ComesFirst-after Barrier events earlier which comes))
may_own state (suc epoch) (CallEnd ∷ events) zero word value store own odd may = absurd (omega arith)
may_own state (suc epoch) (CallEnd ∷ events) (suc which) word value store own odd may =
    may_own state (suc epoch) events which word value store own odd (λ earlier comes. may (suc earlier) (ComesFirst-after CallEnd events earlier which comes))

pub own_epoch : (state epoch : ℕ) (events : List Event) (which : ℕ) → IsStoreAt events which → epoch_of events which ≡ epoch → (slice_get (storm_flags state epoch [] events) which ≡ Some true) ↔ (IsOdd (draw_at state (place_in_epoch events which)) × AreBackBefore events (storm_flags state epoch [] events) which)
own_epoch state epoch events which store own =
    let is = store_is (slice_get events which) store in
    let place : epoch_stores (epoch_of events which) (take which events) ≡ epoch_stores epoch (take which events) = ap (λ e. epoch_stores e (take which events)) own in (
      λ back. (
        subst (λ n. IsOdd (draw_at state n)) (sym place) (odd_own state epoch events which own back),
        λ earlier comes. storm_first state epoch [] events earlier which back comes,
      ),
      λ rule. may_own state epoch events which is.0 is.1 is.2 own (subst (λ n. IsOdd (draw_at state n)) place rule.0) rule.1,
    )
