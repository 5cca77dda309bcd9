-- What must come first, where the same events stand elsewhere; and what no flag and no event is.
use Rattle.std.proofs.Common.{◌≡◌, ◌≢◌, ℕ, suc, ◌<◌, inl, inr, Bool, true, false, Some, List, [], ◌∷◌, refl, ◌∙◌, arith}
use Rattle.std.specs.List.{slice_get}
use Rattle.pm_epochs.specs.declared.event.Event.{Event}
use Rattle.pm_epochs.specs.declared.event.Event.TheVariants.{Store, Barrier, CallEnd}
use Rattle.pm_epochs.specs.Replay.{epoch_of}
use Rattle.pm_steps.specs.Machine.{ComesFirst}

-- ## Flags and events

pub none : {A : Type 0} → Some false ≡ Some true → A
none is = absurd (let no : Some false ≢ Some true = λ e. cc in no is)

pub nothing_there : {A : Type 0} (i : ℕ) → slice_get {X = Bool} [] i ≡ Some true → A
nothing_there i is = absurd (let no : (slice_get {X = Bool} [] i ≡ Some true) → ⊥ = λ e. cc in no is)

pub same_word : (place value word other : ℕ) → Some (Store place value) ≡ Some (Store word other) → place ≡ word
same_word place value word other is = cc

pub not_a_store : {A : Type 0} (event : Event) (word value : ℕ) → ((word value : ℕ) → event ≢ Store word value) → Some event ≡ Some (Store word value) → A
not_a_store event word value other is = absurd (other word value (let e : event ≡ Store word value = cc in e))

-- ## In another log

pub comes_first_at : (old new : List Event) (earlier later first second : ℕ) → ComesFirst old earlier later → first < second
    → slice_get new first ≡ slice_get old earlier → slice_get new second ≡ slice_get old later
    → (epoch_of old earlier < epoch_of old later → epoch_of new first < epoch_of new second) → ComesFirst new first second
comes_first_at old new earlier later first second comes before first_is second_is less = record {
  before = before;
  first_word = comes.first_word;
  first_value = comes.first_value;
  word = comes.word;
  value = comes.value;
  first_is = first_is ∙ comes.first_is;
  second_is = second_is ∙ comes.second_is;
  must = elim comes.must [ inl sooner ↦ inl (less sooner) | inr same ↦ inr same ];
}

-- one event more before them
pub ComesFirst-after : (event : Event) (events : List Event) (earlier later : ℕ) → ComesFirst events earlier later → ComesFirst (event ∷ events) (suc earlier) (suc later)
ComesFirst-after event events earlier later comes =
    comes_first_at events (event ∷ events) earlier later (suc earlier) (suc later) comes (omega (arith, comes.before)) refl refl (less event)
  where
    less : (event : Event) → epoch_of events earlier < epoch_of events later → epoch_of (event ∷ events) (suc earlier) < epoch_of (event ∷ events) (suc later)
    less (Store word value) sooner = sooner
    less Barrier sooner = omega arith
    less CallEnd sooner = sooner

pub ComesFirst-tail : (event : Event) (events : List Event) (earlier later : ℕ) → ComesFirst (event ∷ events) (suc earlier) (suc later) → ComesFirst events earlier later
ComesFirst-tail event events earlier later comes =
    comes_first_at (event ∷ events) events (suc earlier) (suc later) earlier later comes (omega (arith, comes.before)) refl refl (less event)
  where
    less : (event : Event) → epoch_of (event ∷ events) (suc earlier) < epoch_of (event ∷ events) (suc later) → epoch_of events earlier < epoch_of events later
    less (Store word value) sooner = sooner
    less Barrier sooner = omega arith
    less CallEnd sooner = sooner
