-- The stores that a cut keeps are those at the indices that it keeps.
use Rattle.std.proofs.Common.{◌≡◌, ℕ, zero, suc, ◌+◌, ◌<◌, Bool, true, false, List, [], ◌∷◌, length, take, refl, sym, ◌∙◌, ap, arith}
use Rattle.std.specs.Prelude.{cond, ◌&&◌, nat_lt, Option, Some, filter, filter_map, slice_get}
use Rattle.std.specs.List.{range_with_len}
use Rattle.std.proofs.lemmas.List.{length-take, get_or-take, take-take}
use Rattle.std.proofs.Math.Dec.{leb-suc-zero, leb-suc-suc, leb-zero, eqb-suc-zero, eqb-suc-suc}
use Rattle.pm_epochs.specs.declared.event.Event.{Event}
use Rattle.pm_epochs.specs.declared.event.Event.TheVariants.{Store, Barrier, CallEnd}
use Rattle.pm_epochs.specs.Log.{epoch_stores}
use Rattle.pm_epochs.specs.Replay.{PowerCut, stores_of, kept_stores, is_store_at, epoch_of, place_in_epoch, is_back, is_kept, kept_indices, events_at}

-- the events at the indices that a test picks, counted from the list's prefix
picked : (ℕ → Bool) → List Event → List Event
picked test [] = []
picked test (event ∷ events) = cond (test 0) (event ∷ picked (λ i. test (suc i)) events) (picked (λ i. test (suc i)) events)

picked-same : (one two : ℕ → Bool) (events : List Event) → ((i : ℕ) → i < length events → one i ≡ two i) → picked one events ≡ picked two events
unfolding picked
picked-same one two [] same = refl
picked-same one two (event ∷ events) same =
    let here : one 0 ≡ two 0 = same 0 (omega arith) in
    let rest : picked (λ i. one (suc i)) events ≡ picked (λ i. two (suc i)) events = picked-same (λ i. one (suc i)) (λ i. two (suc i)) events (λ i low. same (suc i) (omega arith)) in
    rw (here, rest) refl

picked-none : (test : ℕ → Bool) (events : List Event) → ((i : ℕ) → test i ≡ false) → picked test events ≡ []
unfolding picked
picked-none test [] none = refl
picked-none test (event ∷ events) none =
    let here : test 0 ≡ false = none 0 in
    rw here (picked-none (λ i. test (suc i)) events (λ i. none (suc i)))

picked_step : (at : ℕ → Option Event) (here : Bool) (index : ℕ) (indices : List ℕ) (event : Event) (events : List Event) → at index ≡ Some event → filter_map at indices ≡ events → filter_map at (cond here (index ∷ indices) indices) ≡ cond here (event ∷ events) events
picked_step at true index indices event events is rest = rw (is, rest) refl
picked_step at false index indices event events is rest = rest

-- a test of indices from `first` on, over what stands there
picked_at : (at : ℕ → Option Event) (test : ℕ → Bool) (first : ℕ) (events : List Event) → ((i : ℕ) → i < length events → at (first + i) ≡ slice_get events i) → filter_map at (filter test (range_with_len first (length events))) ≡ picked (λ i. test (first + i)) events
unfolding picked
picked_at at test first [] is = refl
picked_at at test first (event ∷ events) is =
    let here : first + 0 ≡ first = omega arith in
    let next : (i : ℕ) → (first + 1) + i ≡ first + suc i = λ i. omega arith in
    let rest : filter_map at (filter test (range_with_len (first + 1) (length events))) ≡ picked (λ i. test (first + suc i)) events =
    picked_at at test (first + 1) events (λ i low. ap at (next i) ∙ is (suc i) (omega arith))
    ∙ picked-same (λ i. test ((first + 1) + i)) (λ i. test (first + suc i)) events (λ i low. ap test (next i)) in
    picked_step at (test first) first (filter test (range_with_len (first + 1) (length events))) event (picked (λ i. test (first + suc i)) events) (ap at (sym here) ∙ is 0 (omega arith)) rest
    ∙ ap (λ n. cond (test n) (event ∷ picked (λ i. test (first + suc i)) events) (picked (λ i. test (first + suc i)) events)) (sym here)

-- the events up to a moment
picked_before : (test : ℕ → Bool) (moment : ℕ) (events : List Event) → picked (λ i. nat_lt i moment && test i) events ≡ picked test (take moment events)
unfolding picked
picked_before test zero [] = refl
picked_before test (suc moment) [] = refl
picked_before test zero (event ∷ events) = picked-none (λ i. nat_lt i 0 && test i) (event ∷ events) (λ i. rw leb-suc-zero refl)
picked_before test (suc moment) (event ∷ events) =
    let here : nat_lt 0 (suc moment) && test 0 ≡ test 0 = rw (leb-suc-suc, leb-zero) refl in
    let rest : picked (λ i. nat_lt (suc i) (suc moment) && test (suc i)) events ≡ picked (λ i. test (suc i)) (take moment events) =
    picked-same (λ i. nat_lt (suc i) (suc moment) && test (suc i)) (λ i. nat_lt i moment && test (suc i)) events (λ i low. rw leb-suc-suc refl)
    ∙ picked_before (λ i. test (suc i)) moment events in
    rw (here, rest) refl

-- ---- one event more at the start

after_store_in_mask : (keep : Bool) (mask : List Bool) (epoch : ℕ) (events : List Event) (word value : ℕ) → is_back 0 (keep ∷ mask) epoch (epoch_stores epoch (Store word value ∷ events)) ≡ is_back 0 mask epoch (epoch_stores epoch events)
after_store_in_mask keep mask zero events word value = refl
after_store_in_mask keep mask (suc epoch) events word value = rw eqb-suc-zero refl

after_early_store : (cut_epoch : ℕ) (mask : List Bool) (epoch : ℕ) (events : List Event) (word value : ℕ) → is_back (suc cut_epoch) mask epoch (epoch_stores epoch (Store word value ∷ events)) ≡ is_back (suc cut_epoch) mask epoch (epoch_stores epoch events)
after_early_store cut_epoch mask zero events word value = rw (leb-suc-suc, leb-zero) refl
after_early_store cut_epoch mask (suc epoch) events word value = refl

after_barrier : (cut_epoch : ℕ) (mask : List Bool) (epoch place : ℕ) → is_back (suc cut_epoch) mask (suc epoch) place ≡ is_back cut_epoch mask epoch place
after_barrier cut_epoch mask epoch place = rw (leb-suc-suc, eqb-suc-suc) refl

after_call_end : (cut_epoch : ℕ) (mask : List Bool) (epoch : ℕ) (events : List Event) → is_back cut_epoch mask epoch (epoch_stores epoch (CallEnd ∷ events)) ≡ is_back cut_epoch mask epoch (epoch_stores epoch events)
after_call_end cut_epoch mask zero events = refl
after_call_end cut_epoch mask (suc epoch) events = refl

none_past : (mask : List Bool) (epoch place : ℕ) → is_back 0 mask (suc epoch) place ≡ false
none_past mask epoch place = rw (leb-suc-zero, eqb-suc-zero) refl

none_in_mask : (epoch place : ℕ) → is_back 0 [] epoch place ≡ false
none_in_mask zero place = refl
none_in_mask (suc epoch) place = none_past [] epoch place

-- ---- the stores that are kept of whole logs

-- whether the event at an index is a store, and is back
is_stored : ℕ → List Bool → List Event → ℕ → Bool
is_stored epoch mask events i = is_store_at events i && is_back epoch mask (epoch_of events i) (place_in_epoch events i)

and_false : (one two : Bool) → two ≡ false → one && two ≡ false
and_false true two is = is
and_false false two is = refl

none_stored : (events : List Event) (i : ℕ) → is_stored 0 [] events i ≡ false
unfolding is_stored
none_stored events i = and_false (is_store_at events i) (is_back 0 [] (epoch_of events i) (place_in_epoch events i)) (none_in_mask (epoch_of events i) (place_in_epoch events i))

none_after_barrier : (mask : List Bool) (events : List Event) (i : ℕ) → is_stored 0 mask (Barrier ∷ events) i ≡ false
unfolding is_stored
none_after_barrier mask events zero = refl
none_after_barrier mask events (suc i) = and_false (is_store_at events i) (is_back 0 mask (suc (epoch_of events i)) (place_in_epoch events i)) (none_past mask (epoch_of events i) (place_in_epoch events i))

-- the events picked after the first one
picked_after : (epoch next : ℕ) (mask left : List Bool) (event : Event) (events : List Event) → ((i : ℕ) → is_back epoch mask (epoch_of (event ∷ events) (suc i)) (place_in_epoch (event ∷ events) (suc i)) ≡ is_back next left (epoch_of events i) (place_in_epoch events i)) → picked (is_stored next left events) events ≡ picked (λ i. is_stored epoch mask (event ∷ events) (suc i)) events
unfolding is_stored
picked_after epoch next mask left event events same =
    picked-same (is_stored next left events) (λ i. is_stored epoch mask (event ∷ events) (suc i)) events
    (λ i low. ap (λ b. is_store_at events i && b) (sym (same i)))

stores_picked : (epoch : ℕ) (mask : List Bool) (events : List Event) → stores_of epoch mask events ≡ picked (is_stored epoch mask events) events
unfolding picked is_stored
stores_picked epoch mask [] = refl
stores_picked zero [] (Store word value ∷ events) = sym (picked-none (is_stored 0 [] (Store word value ∷ events)) (Store word value ∷ events) (none_stored (Store word value ∷ events)))
stores_picked zero (true ∷ mask) (Store word value ∷ events) =
    ap (λ es. Store word value ∷ es) (stores_picked zero mask events
    ∙ picked_after 0 0 (true ∷ mask) mask (Store word value) events (λ i. after_store_in_mask true mask (epoch_of events i) (take i events) word value))
stores_picked zero (false ∷ mask) (Store word value ∷ events) =
    stores_picked zero mask events
    ∙ picked_after 0 0 (false ∷ mask) mask (Store word value) events (λ i. after_store_in_mask false mask (epoch_of events i) (take i events) word value)
stores_picked (suc epoch) mask (Store word value ∷ events) =
    rw (leb-suc-suc, leb-zero) (ap (λ es. Store word value ∷ es) (stores_picked (suc epoch) mask events
    ∙ picked_after (suc epoch) (suc epoch) mask mask (Store word value) events (λ i. after_early_store epoch mask (epoch_of events i) (take i events) word value)))
stores_picked zero mask (Barrier ∷ events) = sym (picked-none (is_stored 0 mask (Barrier ∷ events)) (Barrier ∷ events) (none_after_barrier mask events))
stores_picked (suc epoch) mask (Barrier ∷ events) =
    stores_picked epoch mask events
    ∙ picked_after (suc epoch) epoch mask mask Barrier events (λ i. after_barrier epoch mask (epoch_of events i) (place_in_epoch events i))
stores_picked epoch mask (CallEnd ∷ events) =
    stores_picked epoch mask events
    ∙ picked_after epoch epoch mask mask CallEnd events (λ i. after_call_end epoch mask (epoch_of events i) (take i events))

-- a prefix has the tests of the whole log
stored_in_prefix : (epoch : ℕ) (mask : List Bool) (moment : ℕ) (events : List Event) (i : ℕ) → i < length (take moment events) → is_stored epoch mask (take moment events) i ≡ is_stored epoch mask events i
unfolding is_stored
stored_in_prefix epoch mask moment events i low =
    let short : i < moment = omega (arith, length-take moment events) in
    let before : take i (take moment events) ≡ take i events = take-take i moment events (omega arith) in
    rw (before, get_or-take moment events i CallEnd short) refl

none_more : (i : ℕ) → 0 + i ≡ i
none_more i = omega arith

pub kept_at_indices : (events : List Event) (cut : PowerCut) → kept_stores events cut ≡ events_at events (kept_indices events cut)
unfolding is_stored
kept_at_indices events cut =
    let prefix = take cut.moment events in
    stores_picked cut.epoch cut.mask prefix
    ∙ picked-same (is_stored cut.epoch cut.mask prefix) (is_stored cut.epoch cut.mask events) prefix (stored_in_prefix cut.epoch cut.mask cut.moment events)
    ∙ sym (picked_before (is_stored cut.epoch cut.mask events) cut.moment events)
    ∙ sym (picked-same (λ i. is_kept events cut (0 + i)) (is_kept events cut) events (λ i low. ap (is_kept events cut) (none_more i)))
    ∙ sym (picked_at (slice_get events) (is_kept events cut) 0 events (λ i low. ap (slice_get events) (none_more i)))
