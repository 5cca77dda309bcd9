-- What the kind of an event of a log describes it, and where a log of kinds has its values.
use Rattle.std.proofs.Common.{◌≡◌, ℕ, zero, suc, ◌+◌, ◌<◌, Some, List, [], ◌∷◌, length, take, set, get_or, sym, ◌∙◌, ap, subst, arith, add-one, get_or-set_same}
use Rattle.std.specs.List.{slice_get}
use Rattle.std.proofs.lemmas.List.{length-set}
use Rattle.std.proofs.lemmas.Option.{get_or_from_slice_get}
use Rattle.pm_epochs.specs.declared.event.Event.{Event}
use Rattle.pm_epochs.specs.declared.event.Event.TheVariants.{Store, Barrier, CallEnd}
use Rattle.pm_epochs.specs.declared.event.EventKind.{EventKind}
use Rattle.pm_epochs.specs.Kind.{event_value, event_of, value_at}
use Rattle.pm_epochs.specs.Log.{words_after}
use Rattle.pm_region.specs.Memory.{AreWithin}

-- ## An event by its kind

value_at-is : (events : List Event) (i : ℕ) (event : Event) → slice_get events i ≡ Some event → value_at events i ≡ event_value event
unfolding value_at
value_at-is events i event is = ap event_value (get_or_from_slice_get events i event CallEnd is)

-- an event that is of a kind with its own value is so with the value at its index
pub kind_get : (events : List Event) (i : ℕ) (event : Event) (kind : EventKind) → slice_get events i ≡ Some event → event ≡ event_of kind (event_value event) → slice_get events i ≡ Some (event_of kind (value_at events i))
kind_get events i event kind is whole = is ∙ ap Some (whole ∙ ap (event_of kind) (sym (value_at-is events i event is)))

pub kind_value : (events : List Event) (i : ℕ) (kind : EventKind) → slice_get events i ≡ Some (event_of kind (value_at events i)) → event_of kind (value_at events i) ≡ get_or events i (event_of kind (value_at events i))
kind_value events i kind is = sym (get_or_from_slice_get events i (event_of kind (value_at events i)) (event_of kind (value_at events i)) is)

-- ## A store's value

-- a store goes to one of the words
pub within_at : (count : ℕ) (events : List Event) (i word value : ℕ) → AreWithin count events → slice_get events i ≡ Some (Store word value) → word < count
within_at count [] i word value within is = cc
within_at count (Store place other ∷ events) zero word value within is = let same : place ≡ word = cc in subst (λ w. w < count) same within.0
within_at count (Barrier ∷ events) zero word value within is = cc
within_at count (CallEnd ∷ events) zero word value within is = cc
within_at count (Store place other ∷ events) (suc i) word value within is = within_at count events i word value within.1 is
within_at count (Barrier ∷ events) (suc i) word value within is = within_at count events i word value within is
within_at count (CallEnd ∷ events) (suc i) word value within is = within_at count events i word value within is

stored : (base : List ℕ) (events : List Event) (i word value : ℕ) → slice_get events i ≡ Some (Store word value) → word < length base → get_or (words_after base (take (suc i) events)) word 0 ≡ value
stored base [] i word value is low = cc
stored base (event ∷ events) zero word value is low = let here : event ≡ Store word value = cc in rw here (get_or-set_same base word value 0 low)
stored base (Store place other ∷ events) (suc i) word value is low = stored (set base place other) events i word value is (omega (arith, length-set base place other, low))
stored base (Barrier ∷ events) (suc i) word value is low = stored base events i word value is low
stored base (CallEnd ∷ events) (suc i) word value is low = stored base events i word value is low

-- after a store its word has its value
pub word_stored : (base : List ℕ) (events : List Event) (i word value : ℕ) → slice_get events i ≡ Some (Store word value) → word < length base → get_or (words_after base (take (i + 1) events)) word 0 ≡ value
word_stored base events i word value is low = rw add-one (stored base events i word value is low)

-- so the event is stated by its kind and that word
pub stored_event : (base : List ℕ) (events : List Event) (i word value : ℕ) → AreWithin (length base) events → slice_get events i ≡ Some (Store word (value_at events i)) → value ≡ get_or (words_after base (take (i + 1) events)) word 0 → slice_get events i ≡ Some (Store word value)
stored_event base events i word value within is read =
    let low = within_at (length base) events i word (value_at events i) within is in
    is ∙ ap (λ v. Some (Store word v)) (sym (read ∙ word_stored base events i word (value_at events i) is low))
