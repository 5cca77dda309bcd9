-- What a scan of the log finds, one event on.
use Rattle.std.proofs.Common.{◌≡◌, ℕ, zero, suc, ◌+◌, ◌<◌, inl, inr, Bool, true, false, cond, eqb, Some, List, [], ◌∷◌, ◌++◌, length, take, drop, get_or, refl, sym, ◌∙◌, ap, arith, add-one}
use Rattle.std.specs.List.{slice_get, items_where_true}
use Rattle.pm_epochs.specs.declared.event.Event.{Event}
use Rattle.pm_epochs.specs.declared.event.Event.TheVariants.{Store, Barrier, CallEnd}
use Rattle.pm_epochs.specs.Log.{words_after, barriers}
use Rattle.pm_epochs.proofs.CrashLaws.{words_after-append, length-words_after}
use Rattle.std.proofs.Math.Seq.{drop-nil}
use Rattle.std.proofs.lemmas.List.{get_or-set_same, get_or-set_other}
use Rattle.std.proofs.lemmas.Bool.Decides.{eqb_tells}
use Rattle.pm_epochs.specs.Replay.{epoch_of}
use Rattle.pm_steps.specs.Machine.{open_epoch, epoch_flags, waiting_call_ends}

abbrev pub barriers_of : Event → ℕ
barriers_of (Store word value) = 0
barriers_of Barrier = 1
barriers_of CallEnd = 0

epoch_of-suc : (events : List Event) (i : ℕ) (event : Event) → slice_get events i ≡ Some event → epoch_of events (suc i) ≡ epoch_of events i + barriers_of event
epoch_of-suc [] i event is = cc
epoch_of-suc (first ∷ events) zero event is = let same : first ≡ event = cc in rw (← same) (one first)
  where
    one : (first : Event) → barriers (first ∷ []) ≡ 0 + barriers_of first
    one (Store word value) = omega arith
    one Barrier = omega arith
    one CallEnd = omega arith
epoch_of-suc (Store word value ∷ events) (suc i) event is = epoch_of-suc events i event is
epoch_of-suc (Barrier ∷ events) (suc i) event is = let e = epoch_of-suc events i event is in omega arith
epoch_of-suc (CallEnd ∷ events) (suc i) event is = epoch_of-suc events i event is

pub epoch_of_next : (events : List Event) (i : ℕ) (event : Event) → slice_get events i ≡ Some event → epoch_of events (i + 1) ≡ epoch_of events i + barriers_of event
epoch_of_next events i event is = rw add-one (epoch_of-suc events i event is)

-- ## A word of the memory

items_where_true-suc : (back : List Bool) (events : List Event) (i : ℕ) (flag : Bool) (event : Event) → slice_get back i ≡ Some flag → slice_get events i ≡ Some event → items_where_true (take (suc i) back) events ≡ items_where_true (take i back) events ++ cond flag (event ∷ []) []
items_where_true-suc [] events i flag event flag_is event_is = cc
items_where_true-suc (first ∷ back) [] i flag event flag_is event_is = cc
items_where_true-suc (true ∷ back) (other ∷ events) zero flag event flag_is event_is = let f : true ≡ flag = cc in let e : other ≡ event = cc in rw (← f, ← e)
items_where_true-suc (false ∷ back) (other ∷ events) zero flag event flag_is event_is = let f : false ≡ flag = cc in rw (← f)
items_where_true-suc (true ∷ back) (other ∷ events) (suc i) flag event flag_is event_is = ap (λ es. other ∷ es) (items_where_true-suc back events i flag event flag_is event_is)
items_where_true-suc (false ∷ back) (other ∷ events) (suc i) flag event flag_is event_is = items_where_true-suc back events i flag event flag_is event_is

pub items_where_true_next : (back : List Bool) (events : List Event) (i : ℕ) (flag : Bool) (event : Event) → slice_get back i ≡ Some flag → slice_get events i ≡ Some event → items_where_true (take (i + 1) back) events ≡ items_where_true (take i back) events ++ cond flag (event ∷ []) []
items_where_true_next back events i flag event flag_is event_is = rw add-one (items_where_true-suc back events i flag event flag_is event_is)

-- the word after one event, which is back or not
abbrev pub word_next : Event → Bool → ℕ → ℕ → ℕ
word_next (Store place value) flag word now = cond flag (cond (eqb place word) value now) now
word_next Barrier flag word now = now
word_next CallEnd flag word now = now

word_after_event : (words : List ℕ) (flag : Bool) (event : Event) (word : ℕ) → word < length words → get_or (words_after words (cond flag (event ∷ []) [])) word 0 ≡ word_next event flag word (get_or words word 0)
word_after_event words false (Store place value) word low = refl
word_after_event words true (Store place value) word low =
    elim (eqb_tells place word) [
      | inl same ↦ rw (same.0, same.1) (get_or-set_same words word value 0 low)
      | inr differ ↦ rw differ.0 (get_or-set_other words place word value 0 (λ e. differ.1 (sym e)))
    ]
word_after_event words true Barrier word low = refl
word_after_event words false Barrier word low = refl
word_after_event words true CallEnd word low = refl
word_after_event words false CallEnd word low = refl

pub image_next : (base : List ℕ) (back : List Bool) (events : List Event) (i : ℕ) (flag : Bool) (event : Event) (word : ℕ) → slice_get back i ≡ Some flag → slice_get events i ≡ Some event → word < length base → get_or (words_after base (items_where_true (take (i + 1) back) events)) word 0 ≡ word_next event flag word (get_or (words_after base (items_where_true (take i back) events)) word 0)
image_next base back events i flag event word flag_is event_is low =
    let before = words_after base (items_where_true (take i back) events) in
    ap (λ es. get_or (words_after base es) word 0) (items_where_true_next back events i flag event flag_is event_is)
    ∙ ap (λ ws. get_or ws word 0) (words_after-append base (items_where_true (take i back) events) (cond flag (event ∷ []) []))
    ∙ word_after_event before flag event word (omega (arith, length-words_after base (items_where_true (take i back) events), low))

-- ## What is left after the last event

pub open_epoch-none : (events : List Event) → open_epoch events [] ≡ 0
open_epoch-none [] = refl
open_epoch-none (event ∷ events) = refl

pub epoch_flags-none : (epoch : ℕ) (events : List Event) → epoch_flags epoch events [] ≡ []
epoch_flags-none epoch [] = refl
epoch_flags-none epoch (event ∷ events) = refl

-- ## The marks before the first store that waits

abbrev pub waiting_next : Event → Bool → ℕ → ℕ
waiting_next (Store word value) flag following = cond flag following 0
waiting_next Barrier flag following = following
waiting_next CallEnd flag following = suc following

waiting_call_ends-cons : (event : Event) (events : List Event) (back : List Bool) → waiting_call_ends (event ∷ events) back ≡ waiting_next event (get_or back 0 false) (waiting_call_ends events (drop 1 back))
waiting_call_ends-cons (Store word value) events [] = refl
waiting_call_ends-cons (Store word value) events (true ∷ back) = refl
waiting_call_ends-cons (Store word value) events (false ∷ back) = refl
waiting_call_ends-cons Barrier events back = refl
waiting_call_ends-cons CallEnd events back = refl

waiting_call_ends-suc : (events : List Event) (back : List Bool) (i : ℕ) (none : Event) → i < length events → waiting_call_ends (drop i events) (drop i back) ≡ waiting_next (get_or events i none) (get_or back i false) (waiting_call_ends (drop (suc i) events) (drop (suc i) back))
waiting_call_ends-suc [] back i none low = absurd (omega arith)
waiting_call_ends-suc (event ∷ events) back zero none low = waiting_call_ends-cons event events back
waiting_call_ends-suc (event ∷ events) [] (suc i) none low = rw drop-nil at (waiting_call_ends-suc events [] i none (omega arith))
waiting_call_ends-suc (event ∷ events) (flag ∷ back) (suc i) none low = waiting_call_ends-suc events back i none (omega arith)

pub waiting_call_ends-drop : (events : List Event) (back : List Bool) (i : ℕ) (none : Event) → i < length events → waiting_call_ends (drop i events) (drop i back) ≡ waiting_next (get_or events i none) (get_or back i false) (waiting_call_ends (drop (i + 1) events) (drop (i + 1) back))
waiting_call_ends-drop events back i none low = rw add-one (waiting_call_ends-suc events back i none low)
