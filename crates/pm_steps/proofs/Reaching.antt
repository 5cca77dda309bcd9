-- Each right cut is reached: the stores that it keeps are written back in the order of the log, and with each of
-- them those of its word before it.
use Rattle.std.proofs.Common.{◌≡◌, ℕ, zero, suc, ◌+◌, ◌<◌, ◌≤◌, inl, inr, Bool, true, false, Some, List, [], ◌∷◌, ◌++◌, length, set, replicate, refl, sym, ◌∙◌, ap, subst, arith, eqb, cond, eq-eqb}
use Rattle.std.specs.List.{slice_get, items_where_true}
use Rattle.std.proofs.lemmas.List.{append_assoc, length-replicate, replicate-append-replicate, set_comm, set-set}
use Rattle.std.proofs.lemmas.Bool.{cases_eq, ne_eqb}
use Rattle.pm_epochs.specs.declared.event.Event.{Event}
use Rattle.pm_epochs.specs.declared.event.Event.TheVariants.{Store, Barrier, CallEnd}
use Rattle.pm_epochs.specs.Log.{words_after}
use Rattle.pm_epochs.specs.Replay.{PowerCut, IsRight, stores_of, replay, epoch_of}
use Rattle.pm_epochs.proofs.Cuts.{kept_stores_right}
use Rattle.pm_steps.specs.Machine.{MachineState, machine_over, MachineStep, is_some_store, ComesFirst, IsInOrder, MayGoBack, after_write_back, state_after, StepsTo, write_backs, in_log_order, cut_of}
use Rattle.pm_steps.specs.Machine.MachineStep.{Execute, WriteBack}
use Rattle.pm_steps.proofs.FirstLaws.{none, nothing_there, same_word, not_a_store, ComesFirst-tail}
use Rattle.pm_steps.proofs.Order.{store_is, reached}
use Rattle.pm_steps.proofs.Cuts.{run_replay}

-- ## Runs in a row

runs_on : (events : List Event) (old : MachineState) (first : List MachineStep) (middle : MachineState) (rest : List MachineStep) (new : MachineState) → StepsTo events old first middle → StepsTo events middle rest new → StepsTo events old (first ++ rest) new
runs_on events old [] middle rest new runs more = rw runs more
runs_on events old (step ∷ first) middle rest new runs more = (runs.0, runs_on events (state_after events old step) first middle rest new runs.1 more)

-- some steps, and the state that they lead to
pub record Reaches (events : List Event) (old : MachineState) (back : List Bool) : Type 0 where
  pub steps : List MachineStep
  pub new : MachineState
  pub runs : StepsTo events old steps new
  pub back_is : new.back ≡ back

-- ## The processor does its events

push_replicate : (n : ℕ) → replicate n false ++ false ∷ [] ≡ replicate (suc n) false
push_replicate n =
    let more : n + 1 ≡ suc n = omega arith in
    replicate-append-replicate n 1 false ∙ ap (λ k. replicate k false) more

taken : (base : List ℕ) (events : List Event) (n : ℕ) → n ≤ length events → Reaches events (machine_over base) (replicate n false)
taken base events zero low = record { steps = []; new = machine_over base; runs = refl; back_is = refl }
taken base events (suc n) low =
    let before = taken base events n (omega arith) in
    let count : length before.new.back ≡ n = ap length before.back_is ∙ length-replicate n false in
    record {
      steps = before.steps ++ Execute ∷ [];
      new = state_after events before.new Execute;
      runs = runs_on events (machine_over base) before.steps before.new (Execute ∷ []) (state_after events before.new Execute) before.runs (omega (arith, count), refl);
      back_is = ap (λ bs. bs ++ false ∷ []) before.back_is ∙ push_replicate n;
    }

-- ## The stores of a list of flags go back in the order of the log

get_prefix : (prefix rest : List Bool) (flag : Bool) → slice_get (prefix ++ flag ∷ rest) (length prefix) ≡ Some flag
get_prefix [] rest flag = refl
get_prefix (x ∷ prefix) rest flag = get_prefix prefix rest flag

get_before : (prefix first second : List Bool) (i : ℕ) (b : Bool) → i < length prefix → slice_get (prefix ++ first) i ≡ Some b → slice_get (prefix ++ second) i ≡ Some b
get_before [] first second i b low is = absurd (omega arith)
get_before (x ∷ prefix) first second zero b low is = is
get_before (x ∷ prefix) first second (suc i) b low is = get_before prefix first second i b (omega arith) is

set_prefix : (prefix rest : List Bool) (flag new : Bool) → set (prefix ++ flag ∷ rest) (length prefix) new ≡ prefix ++ new ∷ rest
set_prefix [] rest flag new = refl
set_prefix (x ∷ prefix) rest flag new = ap (λ bs. x ∷ bs) (set_prefix prefix rest flag new)

runs_written : (events : List Event) (old : MachineState) (which word value : ℕ) → slice_get events which ≡ Some (Store word value) → (steps : List MachineStep) (new : MachineState) → StepsTo events (record { back = set old.back which true; words = set old.words word value }) steps new → StepsTo events (after_write_back old which (slice_get events which)) steps new
runs_written events old which word value store steps new runs = rw store runs

-- from a state in which the prefix is as it is to be and nothing after it is back
written_back : (events : List Event) (prefix rest : List Bool) (old : MachineState) → IsInOrder events (prefix ++ rest) → old.back ≡ prefix ++ replicate (length rest) false → Reaches events old (prefix ++ rest)
written_back events prefix [] old order back_is = record { steps = []; new = old; runs = refl; back_is = back_is }
written_back events prefix (false ∷ rest) old order back_is =
    let parts = append_assoc prefix (false ∷ []) rest in
    let more = written_back events (prefix ++ false ∷ []) rest old (rw parts order) (rw append_assoc back_is) in
    record { steps = more.steps; new = more.new; runs = more.runs; back_is = more.back_is ∙ parts }
written_back events prefix (true ∷ rest) old order back_is =
    let parts = append_assoc prefix (true ∷ []) rest in
    let store = store_is (slice_get events (length prefix)) (order.stores (length prefix) (get_prefix prefix rest true)) in
    let next : MachineState = record { back = set old.back (length prefix) true; words = set old.words store.0 store.1 } in
    let ready : MayGoBack events old.back (length prefix) = record {
      word = store.0;
      value = store.1;
      store = store.2;
      waits = ap (λ bs. slice_get bs (length prefix)) back_is ∙ get_prefix prefix (replicate (length rest) false) false;
      first = λ earlier comes. rw back_is (get_before prefix (true ∷ rest) (false ∷ replicate (length rest) false) earlier true comes.before (order.first earlier (length prefix) (get_prefix prefix rest true) comes));
    } in
    let next_back : next.back ≡ prefix ++ true ∷ [] ++ replicate (length rest) false =
    ap (λ bs. set bs (length prefix) true) back_is ∙ set_prefix prefix (replicate (length rest) false) false true ∙ sym (append_assoc prefix (true ∷ []) (replicate (length rest) false)) in
    let more = written_back events (prefix ++ true ∷ []) rest next (rw parts order) next_back in
    record {
      steps = WriteBack (length prefix) ∷ more.steps;
      new = more.new;
      runs = (ready, runs_written events old (length prefix) store.0 store.1 store.2 more.steps more.new more.runs);
      back_is = more.back_is ∙ parts;
    }

-- any flags in order are reached
pub flags_reached : (base : List ℕ) (events : List Event) (back : List Bool) → IsInOrder events back → Reaches events (machine_over base) back
flags_reached base events back order =
    let before = taken base events (length back) order.few in
    let after = written_back events [] back before.new order before.back_is in
    record {
      steps = before.steps ++ after.steps;
      new = after.new;
      runs = runs_on events (machine_over base) before.steps before.new after.steps after.new before.runs after.runs;
      back_is = after.back_is;
    }

-- the steps are those in the order of the log
taken_steps : (base : List ℕ) (events : List Event) (n : ℕ) (low : n ≤ length events) → (taken base events n low).steps ≡ replicate n Execute
unfolding taken
taken_steps base events zero low = refl
taken_steps base events (suc n) low =
    let more : n + 1 ≡ suc n = omega arith in
    ap (λ ss. ss ++ Execute ∷ []) (taken_steps base events n (omega arith)) ∙ replicate-append-replicate n 1 Execute ∙ ap (λ k. replicate k Execute) more

length-one_more : (prefix : List Bool) (flag : Bool) → length (prefix ++ flag ∷ []) ≡ suc (length prefix)
length-one_more [] flag = refl
length-one_more (first ∷ prefix) flag = ap suc (length-one_more prefix flag)

written_steps : (events : List Event) (prefix rest : List Bool) (old : MachineState) (order : IsInOrder events (prefix ++ rest)) (back_is : old.back ≡ prefix ++ replicate (length rest) false) → (written_back events prefix rest old order back_is).steps ≡ write_backs (length prefix) rest
unfolding written_back
written_steps events prefix [] old order back_is = refl
written_steps events prefix (false ∷ rest) old order back_is =
    written_steps events (prefix ++ false ∷ []) rest old _ _ ∙ ap (λ n. write_backs n rest) (length-one_more prefix false)
written_steps events prefix (true ∷ rest) old order back_is =
    ap (λ ss. WriteBack (length prefix) ∷ ss) (written_steps events (prefix ++ true ∷ []) rest _ _ _ ∙ ap (λ n. write_backs n rest) (length-one_more prefix true))

flags_steps : (base : List ℕ) (events : List Event) (back : List Bool) (order : IsInOrder events back) → (flags_reached base events back order).steps ≡ in_log_order back
unfolding flags_reached
flags_steps base events back order =
    let before = taken base events (length back) order.few in
    ap (λ ss. ss ++ (written_back events [] back before.new order before.back_is).steps) (taken_steps base events (length back) order.few)
    ∙ ap (λ ss. replicate (length back) Execute ++ ss) (written_steps events [] back before.new order before.back_is)

state_is : (state : MachineState) (back : List Bool) (words : List ℕ) → state.back ≡ back → state.words ≡ words → state ≡ record { back = back; words = words }
state_is state back words is_back is_words =
    ap (λ (bs : List Bool). let s : MachineState = record { back = bs; words = state.words } in s) is_back
    ∙ ap (λ (ws : List ℕ). let s : MachineState = record { back = back; words = ws } in s) is_words

pub reached_in_log_order : (base : List ℕ) (events : List Event) (back : List Bool) → IsInOrder events back → StepsTo events (machine_over base) (in_log_order back) (record { back = back; words = replay base events (cut_of events back) })
reached_in_log_order base events back order =
    let found = flags_reached base events back order in
    let words : found.new.words ≡ replay base events (cut_of events back) =
    run_replay base events found.new (reached base events found.steps found.new found.runs) ∙ ap (λ bs. replay base events (cut_of events bs)) found.back_is in
    subst (λ ss. StepsTo events (machine_over base) ss (record { back = back; words = replay base events (cut_of events back) })) (flags_steps base events back order)
    (subst (λ st. StepsTo events (machine_over base) found.steps st) (state_is found.new back (replay base events (cut_of events back)) found.back_is words) found.runs)

-- ## What has to go back for a cut

-- a store to the word is kept before the next barrier
abbrev is_kept_later : ℕ → List Bool → List Event → Bool
is_kept_later word mask [] = false
is_kept_later word [] (Store place value ∷ events) = false
is_kept_later word (true ∷ mask) (Store place value ∷ events) = cond (eqb place word) true (is_kept_later word mask events)
is_kept_later word (false ∷ mask) (Store place value ∷ events) = is_kept_later word mask events
is_kept_later word mask (Barrier ∷ events) = false
is_kept_later word mask (CallEnd ∷ events) = is_kept_later word mask events

-- the stores that are kept, and those before them of the same word
abbrev wanted : ℕ → List Bool → List Event → List Bool
wanted epoch mask [] = []
wanted zero [] (Store place value ∷ events) = false ∷ wanted zero [] events
wanted zero (true ∷ mask) (Store place value ∷ events) = true ∷ wanted zero mask events
wanted zero (false ∷ mask) (Store place value ∷ events) = is_kept_later place mask events ∷ wanted zero mask events
wanted (suc epoch) mask (Store place value ∷ events) = true ∷ wanted (suc epoch) mask events
wanted zero mask (Barrier ∷ events) = false ∷ wanted zero [] events
wanted (suc epoch) mask (Barrier ∷ events) = false ∷ wanted epoch mask events
wanted epoch mask (CallEnd ∷ events) = false ∷ wanted epoch mask events

length-wanted : (epoch : ℕ) (mask : List Bool) (events : List Event) → length (wanted epoch mask events) ≡ length events
length-wanted epoch mask [] = refl
length-wanted zero [] (Store place value ∷ events) = ap suc (length-wanted zero [] events)
length-wanted zero (true ∷ mask) (Store place value ∷ events) = ap suc (length-wanted zero mask events)
length-wanted zero (false ∷ mask) (Store place value ∷ events) = ap suc (length-wanted zero mask events)
length-wanted (suc epoch) mask (Store place value ∷ events) = ap suc (length-wanted (suc epoch) mask events)
length-wanted zero mask (Barrier ∷ events) = ap suc (length-wanted zero [] events)
length-wanted (suc epoch) mask (Barrier ∷ events) = ap suc (length-wanted epoch mask events)
length-wanted epoch mask (CallEnd ∷ events) = ap suc (length-wanted epoch mask events)

wanted_store : (epoch : ℕ) (mask : List Bool) (events : List Event) (i : ℕ) → slice_get (wanted epoch mask events) i ≡ Some true → is_some_store (slice_get events i) ≡ true
wanted_store epoch mask [] i is = nothing_there i is
wanted_store zero [] (Store place value ∷ events) zero is = refl
wanted_store zero [] (Store place value ∷ events) (suc i) is = wanted_store zero [] events i is
wanted_store zero (true ∷ mask) (Store place value ∷ events) zero is = refl
wanted_store zero (true ∷ mask) (Store place value ∷ events) (suc i) is = wanted_store zero mask events i is
wanted_store zero (false ∷ mask) (Store place value ∷ events) zero is = refl
wanted_store zero (false ∷ mask) (Store place value ∷ events) (suc i) is = wanted_store zero mask events i is
wanted_store (suc epoch) mask (Store place value ∷ events) zero is = refl
wanted_store (suc epoch) mask (Store place value ∷ events) (suc i) is = wanted_store (suc epoch) mask events i is
wanted_store zero mask (Barrier ∷ events) zero is = none is
wanted_store zero mask (Barrier ∷ events) (suc i) is = wanted_store zero [] events i is
wanted_store (suc epoch) mask (Barrier ∷ events) zero is = none is
wanted_store (suc epoch) mask (Barrier ∷ events) (suc i) is = wanted_store epoch mask events i is
wanted_store epoch mask (CallEnd ∷ events) zero is = none is
wanted_store epoch mask (CallEnd ∷ events) (suc i) is = wanted_store epoch mask events i is

-- nothing is wanted where no epoch and no mask are left
none_wanted : (events : List Event) (i : ℕ) → slice_get (wanted 0 [] events) i ≡ Some true → ⊥
none_wanted [] i is = cc
none_wanted (Store place value ∷ events) zero is = cc
none_wanted (Store place value ∷ events) (suc i) is = none_wanted events i is
none_wanted (Barrier ∷ events) zero is = cc
none_wanted (Barrier ∷ events) (suc i) is = none_wanted events i is
none_wanted (CallEnd ∷ events) zero is = cc
none_wanted (CallEnd ∷ events) (suc i) is = none_wanted events i is

-- what is wanted of the first epoch lies before the first barrier
wanted_early : (mask : List Bool) (events : List Event) (i : ℕ) → slice_get (wanted 0 mask events) i ≡ Some true → epoch_of events i ≡ 0
wanted_early mask [] i is = nothing_there i is
wanted_early mask (Store place value ∷ events) zero is = refl
wanted_early [] (Store place value ∷ events) (suc i) is = wanted_early [] events i is
wanted_early (true ∷ mask) (Store place value ∷ events) (suc i) is = wanted_early mask events i is
wanted_early (false ∷ mask) (Store place value ∷ events) (suc i) is = wanted_early mask events i is
wanted_early mask (Barrier ∷ events) zero is = refl
wanted_early mask (Barrier ∷ events) (suc i) is = absurd (none_wanted events i is)
wanted_early mask (CallEnd ∷ events) zero is = refl
wanted_early mask (CallEnd ∷ events) (suc i) is = wanted_early mask events i is

cond_same : (b : Bool) → cond b true true ≡ true
cond_same true = refl
cond_same false = refl

-- a store to the word that is wanted is kept, or one after it is
wanted_kept : (word other : ℕ) (mask : List Bool) (events : List Event) (i : ℕ) → slice_get (wanted 0 mask events) i ≡ Some true → slice_get events i ≡ Some (Store word other) → is_kept_later word mask events ≡ true
wanted_kept word other mask [] i is store = nothing_there i is
wanted_kept word other [] (Store place value ∷ events) zero is store = none is
wanted_kept word other [] (Store place value ∷ events) (suc i) is store = absurd (none_wanted events i is)
wanted_kept word other (true ∷ mask) (Store place value ∷ events) zero is store = rw (eq-eqb place word (same_word place value word other store))
wanted_kept word other (true ∷ mask) (Store place value ∷ events) (suc i) is store = rw (wanted_kept word other mask events i is store) (cond_same (eqb place word))
wanted_kept word other (false ∷ mask) (Store place value ∷ events) zero is store = subst (λ w. is_kept_later w mask events ≡ true) (same_word place value word other store) (let e : is_kept_later place mask events ≡ true = cc in e)
wanted_kept word other (false ∷ mask) (Store place value ∷ events) (suc i) is store = wanted_kept word other mask events i is store
wanted_kept word other mask (Barrier ∷ events) zero is store = none is
wanted_kept word other mask (Barrier ∷ events) (suc i) is store = absurd (none_wanted events i is)
wanted_kept word other mask (CallEnd ∷ events) zero is store = none is
wanted_kept word other mask (CallEnd ∷ events) (suc i) is store = wanted_kept word other mask events i is store

-- ## They are in order

-- the first store of a log that has to come before one that is wanted
wanted_first : (place value : ℕ) (keep : Bool) (mask : List Bool) (events : List Event) (later : ℕ) → slice_get (wanted 0 mask events) later ≡ Some true → ComesFirst (Store place value ∷ events) 0 (suc later) → is_kept_later place mask events ≡ true
wanted_first place value keep mask events later is comes =
    elim comes.must [
      | inl less ↦ absurd (omega (arith, less, wanted_early mask events later is))
      | inr same ↦
          let first_is = comes.first_is in
          let place_is : place ≡ comes.first_word = same_word place value comes.first_word comes.first_value first_is in
          wanted_kept place comes.value mask events later is (subst (λ w. slice_get events later ≡ Some (Store w comes.value)) (sym (place_is ∙ same)) comes.second_is)
    ]

wanted_in_order : (epoch : ℕ) (mask : List Bool) (events : List Event) (earlier later : ℕ) → slice_get (wanted epoch mask events) later ≡ Some true → ComesFirst events earlier later → slice_get (wanted epoch mask events) earlier ≡ Some true
wanted_in_order epoch mask events earlier zero is comes = absurd (omega (arith, comes.before))
wanted_in_order epoch mask [] earlier (suc later) is comes = nothing_there (suc later) is
wanted_in_order zero [] (Store place value ∷ events) zero (suc later) is comes = absurd (none_wanted events later is)
wanted_in_order zero [] (Store place value ∷ events) (suc earlier) (suc later) is comes = absurd (none_wanted events later is)
wanted_in_order zero (true ∷ mask) (Store place value ∷ events) zero (suc later) is comes = refl
wanted_in_order zero (true ∷ mask) (Store place value ∷ events) (suc earlier) (suc later) is comes = wanted_in_order zero mask events earlier later is (ComesFirst-tail (Store place value) events earlier later comes)
wanted_in_order zero (false ∷ mask) (Store place value ∷ events) zero (suc later) is comes = ap Some (wanted_first place value false mask events later is comes)
wanted_in_order zero (false ∷ mask) (Store place value ∷ events) (suc earlier) (suc later) is comes = wanted_in_order zero mask events earlier later is (ComesFirst-tail (Store place value) events earlier later comes)
wanted_in_order (suc epoch) mask (Store place value ∷ events) zero (suc later) is comes = refl
wanted_in_order (suc epoch) mask (Store place value ∷ events) (suc earlier) (suc later) is comes = wanted_in_order (suc epoch) mask events earlier later is (ComesFirst-tail (Store place value) events earlier later comes)
wanted_in_order zero mask (Barrier ∷ events) earlier (suc later) is comes = absurd (none_wanted events later is)
wanted_in_order (suc epoch) mask (Barrier ∷ events) zero (suc later) is comes = not_a_store Barrier comes.first_word comes.first_value (λ w v e. cc) comes.first_is
wanted_in_order (suc epoch) mask (Barrier ∷ events) (suc earlier) (suc later) is comes = wanted_in_order epoch mask events earlier later is (ComesFirst-tail Barrier events earlier later comes)
wanted_in_order epoch mask (CallEnd ∷ events) zero (suc later) is comes = not_a_store CallEnd comes.first_word comes.first_value (λ w v e. cc) comes.first_is
wanted_in_order epoch mask (CallEnd ∷ events) (suc earlier) (suc later) is comes = wanted_in_order epoch mask events earlier later is (ComesFirst-tail CallEnd events earlier later comes)

in_order_wanted : (epoch : ℕ) (mask : List Bool) (events : List Event) → IsInOrder events (wanted epoch mask events)
in_order_wanted epoch mask events = record {
  few = omega (arith, length-wanted epoch mask events);
  stores = wanted_store epoch mask events;
  first = wanted_in_order epoch mask events;
}

-- ## They leave what the cut leaves

-- a store before a kept one of its word is lost on the memory
overwritten : (words : List ℕ) (word value : ℕ) (mask : List Bool) (events : List Event) → is_kept_later word mask events ≡ true → words_after (set words word value) (stores_of 0 mask events) ≡ words_after words (stores_of 0 mask events)
overwritten words word value mask [] later = cc
overwritten words word value [] (Store place other ∷ events) later = cc
overwritten words word value (true ∷ mask) (Store place other ∷ events) later =
    elim (cases_eq place word) [
      | inl same ↦ rw same (ap (λ ws. words_after ws (stores_of 0 mask events)) (set-set words word value other))
      | inr differ ↦
          let following : is_kept_later word mask events ≡ true = rw (ne_eqb place word differ) at later in
          ap (λ ws. words_after ws (stores_of 0 mask events)) (set_comm words word place value other (λ e. differ (sym e)))
          ∙ overwritten (set words place other) word value mask events following
    ]
overwritten words word value (false ∷ mask) (Store place other ∷ events) later = overwritten words word value mask events later
overwritten words word value mask (Barrier ∷ events) later = cc
overwritten words word value mask (CallEnd ∷ events) later = overwritten words word value mask events later

none_items : (events : List Event) → items_where_true (wanted 0 [] events) events ≡ []
none_items [] = refl
none_items (Store place value ∷ events) = none_items events
none_items (Barrier ∷ events) = none_items events
none_items (CallEnd ∷ events) = none_items events

-- a store that is not kept, and that is wanted where one after it is kept
lost : (words : List ℕ) (place value : ℕ) (mask : List Bool) (events : List Event) → ((ws : List ℕ) → words_after ws (items_where_true (wanted 0 mask events) events) ≡ words_after ws (stores_of 0 mask events)) → (later : Bool) → is_kept_later place mask events ≡ later → words_after words (items_where_true (later ∷ wanted 0 mask events) (Store place value ∷ events)) ≡ words_after words (stores_of 0 mask events)
lost words place value mask events following true is = following (set words place value) ∙ overwritten words place value mask events is
lost words place value mask events following false is = following words

left_by_wanted : (words : List ℕ) (epoch : ℕ) (mask : List Bool) (events : List Event) → words_after words (items_where_true (wanted epoch mask events) events) ≡ words_after words (stores_of epoch mask events)
left_by_wanted words epoch mask [] = refl
left_by_wanted words zero [] (Store place value ∷ events) = ap (words_after words) (none_items events)
left_by_wanted words zero (true ∷ mask) (Store place value ∷ events) = left_by_wanted (set words place value) zero mask events
left_by_wanted words zero (false ∷ mask) (Store place value ∷ events) =
    lost words place value mask events (λ ws. left_by_wanted ws zero mask events) (is_kept_later place mask events) refl
left_by_wanted words (suc epoch) mask (Store place value ∷ events) = left_by_wanted (set words place value) (suc epoch) mask events
left_by_wanted words zero mask (Barrier ∷ events) = ap (words_after words) (none_items events)
left_by_wanted words (suc epoch) mask (Barrier ∷ events) = left_by_wanted words epoch mask events
left_by_wanted words epoch mask (CallEnd ∷ events) = left_by_wanted words epoch mask events

-- what any right cut leaves is reached by some steps
pub replay_reached : (base : List ℕ) (events : List Event) (cut : PowerCut) → IsRight events cut → (steps : List MachineStep) × (state : MachineState) × StepsTo events (machine_over base) steps state × (state.words ≡ replay base events cut)
replay_reached base events cut right =
    let back = wanted cut.epoch cut.mask events in
    let found = flags_reached base events back (in_order_wanted cut.epoch cut.mask events) in
    let state = reached base events found.steps found.new found.runs in (
      found.steps,
      found.new,
      found.runs,
      state.words ∙ ap (λ bs. words_after base (items_where_true bs events)) found.back_is
          ∙ left_by_wanted base cut.epoch cut.mask events
          ∙ ap (words_after base) (sym (kept_stores_right events cut right)),
    )
