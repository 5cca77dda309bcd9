-- Logs that are the same except for the values of their stores, as a log and its undo log.
use Rattle.std.proofs.Common.{◌≡◌, ℕ, zero, suc, ◌+◌, Bool, true, false, List, [], ◌∷◌, length, take, drop, get_or, Some, refl, sym, ◌∙◌, ap, arith, subst}
use Rattle.std.specs.Prelude.{◌↔◌, option_map, slice_get}
use Rattle.pm_epochs.specs.declared.event.Event.{Event}
use Rattle.pm_epochs.specs.declared.event.Event.TheVariants.{Store, Barrier, CallEnd}
use Rattle.pm_epochs.specs.declared.event.EventKind.{EventKind}
use Rattle.pm_epochs.specs.Kind.{event_kind, event_of, event_value, value_at}
use Rattle.pm_epochs.specs.Log.{barriers, epoch_stores, call_ends}
use Rattle.pm_epochs.specs.Replay.{IsRight, PowerCut, call_ends_of}
use Rattle.pm_region.specs.Epochs.{epoch_start}
use Rattle.pm_region.specs.Memory.{AreInRow, AreWithin, Follows}
use Rattle.pm_region.proofs.KindLaws.{kind_get}
use Rattle.pm_raw.specs.Unwound.{erased, erased_event, events_from, undo_of}

pub erased-events : (now : List ℕ) (undos : List Event) → erased (events_from now undos) ≡ erased undos
erased-events now [] = refl
erased-events now (Store word saved ∷ undos) = ap (λ es. Store word 0 ∷ es) (erased-events now undos)
erased-events now (Barrier ∷ undos) = ap (λ es. Barrier ∷ es) (erased-events now undos)
erased-events now (CallEnd ∷ undos) = ap (λ es. CallEnd ∷ es) (erased-events now undos)

pub erased-undo : (words : List ℕ) (events : List Event) → erased (undo_of words events) ≡ erased events
erased-undo words [] = refl
erased-undo words (Store word value ∷ events) = ap (λ es. Store word 0 ∷ es) (erased-undo _ events)
erased-undo words (Barrier ∷ events) = ap (λ es. Barrier ∷ es) (erased-undo words events)
erased-undo words (CallEnd ∷ events) = ap (λ es. CallEnd ∷ es) (erased-undo words events)

-- ## What depends on the kinds of the events alone

length-erased : (events : List Event) → length (erased events) ≡ length events
length-erased [] = refl
length-erased (event ∷ events) = ap suc (length-erased events)

barriers-erased : (events : List Event) → barriers (erased events) ≡ barriers events
barriers-erased [] = refl
barriers-erased (Store word value ∷ events) = barriers-erased events
barriers-erased (Barrier ∷ events) = ap suc (barriers-erased events)
barriers-erased (CallEnd ∷ events) = barriers-erased events

call_ends-erased : (events : List Event) → call_ends (erased events) ≡ call_ends events
call_ends-erased [] = refl
call_ends-erased (Store word value ∷ events) = call_ends-erased events
call_ends-erased (Barrier ∷ events) = call_ends-erased events
call_ends-erased (CallEnd ∷ events) = ap suc (call_ends-erased events)

start-erased : (epoch : ℕ) (events : List Event) → epoch_start epoch (erased events) ≡ epoch_start epoch events
start-erased zero events = refl
start-erased (suc epoch) [] = refl
start-erased (suc epoch) (Store word value ∷ events) = ap suc (start-erased (suc epoch) events)
start-erased (suc epoch) (Barrier ∷ events) = ap suc (start-erased epoch events)
start-erased (suc epoch) (CallEnd ∷ events) = ap suc (start-erased (suc epoch) events)

stores-erased : (epoch : ℕ) (events : List Event) → epoch_stores epoch (erased events) ≡ epoch_stores epoch events
stores-erased epoch [] = refl
stores-erased zero (Store word value ∷ events) = ap suc (stores-erased zero events)
stores-erased (suc epoch) (Store word value ∷ events) = stores-erased (suc epoch) events
stores-erased zero (Barrier ∷ events) = refl
stores-erased (suc epoch) (Barrier ∷ events) = stores-erased epoch events
stores-erased zero (CallEnd ∷ events) = stores-erased zero events
stores-erased (suc epoch) (CallEnd ∷ events) = stores-erased (suc epoch) events

calls-erased : (epoch : ℕ) (mask : List Bool) (events : List Event) → call_ends_of epoch mask (erased events) ≡ call_ends_of epoch mask events
calls-erased zero mask [] = refl
calls-erased (suc epoch) mask [] = refl
calls-erased zero [] (Store word value ∷ events) = refl
calls-erased zero (true ∷ mask) (Store word value ∷ events) = calls-erased zero mask events
calls-erased zero (false ∷ mask) (Store word value ∷ events) = refl
calls-erased (suc epoch) mask (Store word value ∷ events) = calls-erased (suc epoch) mask events
calls-erased zero [] (Barrier ∷ events) = calls-erased zero [] events
calls-erased zero (true ∷ mask) (Barrier ∷ events) = calls-erased zero [] events
calls-erased zero (false ∷ mask) (Barrier ∷ events) = calls-erased zero [] events
calls-erased (suc epoch) mask (Barrier ∷ events) = calls-erased epoch mask events
calls-erased zero [] (CallEnd ∷ events) = ap suc (calls-erased zero [] events)
calls-erased zero (true ∷ mask) (CallEnd ∷ events) = ap suc (calls-erased zero (true ∷ mask) events)
calls-erased zero (false ∷ mask) (CallEnd ∷ events) = ap suc (calls-erased zero (false ∷ mask) events)
calls-erased (suc epoch) mask (CallEnd ∷ events) = ap suc (calls-erased (suc epoch) mask events)

kind-erased : (i : ℕ) (events : List Event) → option_map event_kind (slice_get (erased events) i) ≡ option_map event_kind (slice_get events i)
kind-erased i [] = refl
kind-erased zero (Store word value ∷ events) = refl
kind-erased zero (Barrier ∷ events) = refl
kind-erased zero (CallEnd ∷ events) = refl
kind-erased (suc i) (event ∷ events) = kind-erased i events

take-erased : (n : ℕ) (events : List Event) → erased (take n events) ≡ take n (erased events)
take-erased zero events = refl
take-erased (suc n) [] = refl
take-erased (suc n) (event ∷ events) = ap (λ es. erased_event event ∷ es) (take-erased n events)

-- two logs that are the same except for the values of their stores
module _ (events others : List Event) (same : erased events ≡ erased others) where
  -- what is a function of the kinds alone
  pub by-kinds : {A : Type 0} (reported : List Event → A) → ((es : List Event) → reported (erased es) ≡ reported es) → reported events ≡ reported others
  by-kinds reported kinds = sym (kinds events) ∙ ap reported same ∙ kinds others

  pub length-kinds : length events ≡ length others
  length-kinds = by-kinds length length-erased

  pub barriers-kinds : barriers events ≡ barriers others
  barriers-kinds = by-kinds barriers barriers-erased

  pub call_ends-kinds : call_ends events ≡ call_ends others
  call_ends-kinds = by-kinds call_ends call_ends-erased

  pub start-kinds : (epoch : ℕ) → epoch_start epoch events ≡ epoch_start epoch others
  start-kinds epoch = by-kinds (epoch_start epoch) (start-erased epoch)

  pub stores-kinds : (epoch : ℕ) → epoch_stores epoch events ≡ epoch_stores epoch others
  stores-kinds epoch = by-kinds (epoch_stores epoch) (stores-erased epoch)

  pub calls-kinds : (epoch : ℕ) (mask : List Bool) → call_ends_of epoch mask events ≡ call_ends_of epoch mask others
  calls-kinds epoch mask = by-kinds (call_ends_of epoch mask) (calls-erased epoch mask)

  pub kind-kinds : (i : ℕ) → option_map event_kind (slice_get events i) ≡ option_map event_kind (slice_get others i)
  kind-kinds i = by-kinds (λ es. option_map event_kind (slice_get es i)) (kind-erased i)

  pub take-kinds : (n : ℕ) → erased (take n events) ≡ erased (take n others)
  take-kinds n = take-erased n events ∙ ap (take n) same ∙ sym (take-erased n others)

pub barriers-prefix-kinds : (n : ℕ) (events others : List Event) → erased events ≡ erased others → barriers (take n events) ≡ barriers (take n others)
barriers-prefix-kinds n events others same = barriers-kinds (take n events) (take n others) (take-kinds events others same n)

pub right-kinds : (events others : List Event) (cut : PowerCut) → erased events ≡ erased others → IsRight events cut → IsRight others cut
right-kinds events others cut same right = record {
  moment = omega (arith, right.moment, length-kinds events others same);
  epoch = omega (arith, right.epoch, barriers-prefix-kinds cut.moment events others same);
  mask = omega (arith, right.mask, stores-kinds (take cut.moment events) (take cut.moment others) (take-kinds events others same cut.moment) cut.epoch);
}

pub right-iff : {Ok : Type 0} (events others : List Event) (cut : PowerCut) → erased events ≡ erased others → (Ok ↔ IsRight events cut) → Ok ↔ IsRight others cut
right-iff events others cut same iff =
    (λ ok. right-kinds events others cut same (iff.0 ok), λ right. iff.1 (right-kinds others events cut (sym same) right))

-- ## Where stores go

within-erased : (count : ℕ) (events : List Event) → AreWithin count events → AreWithin count (erased events)
within-erased count [] within = tt
within-erased count (Store word value ∷ events) within = (within.0, within-erased count events within.1)
within-erased count (Barrier ∷ events) within = within-erased count events within
within-erased count (CallEnd ∷ events) within = within-erased count events within

within-reported : (count : ℕ) (events : List Event) → AreWithin count (erased events) → AreWithin count events
within-reported count [] within = tt
within-reported count (Store word value ∷ events) within = (within.0, within-reported count events within.1)
within-reported count (Barrier ∷ events) within = within-reported count events within
within-reported count (CallEnd ∷ events) within = within-reported count events within

pub within-kinds : (count : ℕ) (events others : List Event) → erased events ≡ erased others → AreWithin count events → AreWithin count others
within-kinds count events others same within = within-reported count others (subst (AreWithin count) same (within-erased count events within))

follows-erased : (event next : Event) → Follows event next → Follows (erased_event event) (erased_event next)
follows-erased (Store word value) (Store place other) follows = follows
follows-erased (Store word value) Barrier follows = follows
follows-erased (Store word value) CallEnd follows = follows
follows-erased Barrier next follows = follows
follows-erased CallEnd next follows = follows

follows-reported : (event next : Event) → Follows (erased_event event) (erased_event next) → Follows event next
follows-reported (Store word value) (Store place other) follows = follows
follows-reported (Store word value) Barrier follows = follows
follows-reported (Store word value) CallEnd follows = follows
follows-reported Barrier next follows = follows
follows-reported CallEnd next follows = follows

follows-kinds : (event next other after : Event) → erased_event event ≡ erased_event other → erased_event next ≡ erased_event after → Follows event next → Follows other after
follows-kinds event next other after event_is next_is follows =
    follows-reported other after (subst (λ e. Follows e (erased_event after)) event_is (subst (Follows (erased_event event)) next_is (follows-erased event next follows)))

-- what stands in the one log where an event stands in the other
at-kinds : (events others : List Event) → erased events ≡ erased others → (i : ℕ) (other : Event) → slice_get others i ≡ Some other → (event : Event) × ((slice_get events i ≡ Some event) × (erased_event event ≡ erased_event other))
at-kinds [] [] same i other here = absurd cc
at-kinds [] (next ∷ others) same i other here = let no : 0 ≡ suc (length (erased others)) = ap length same in absurd (omega (arith, no))
at-kinds (event ∷ events) [] same i other here = let no : suc (length (erased events)) ≡ 0 = ap length same in absurd (omega (arith, no))
at-kinds (event ∷ events) (next ∷ others) same zero other here =
    let is : next ≡ other = cc in
    (event, (refl, ap (λ es. get_or es 0 CallEnd) same ∙ ap erased_event is))
at-kinds (event ∷ events) (next ∷ others) same (suc i) other here = at-kinds events others (ap (drop 1) same) i other here

pub row-kinds : (events others : List Event) (first count : ℕ) → erased events ≡ erased others → AreInRow events first count → AreInRow others first count
row-kinds events others first count same row i other after more here there =
    let event = at-kinds events others same (first + i) other here in
    let next = at-kinds events others same (first + i + 1) after there in
    follows-kinds event.0 next.0 other after event.1.1 next.1.1 (row i event.0 next.0 more event.1.0 next.1.0)

-- an event is stated by its kind and its value
kind-of : (events : List Event) (i : ℕ) (kind : EventKind) → option_map event_kind (slice_get events i) ≡ Some kind → (event : Event) × ((slice_get events i ≡ Some event) × (event_kind event ≡ kind))
kind-of [] i kind is = absurd cc
kind-of (event ∷ events) zero kind is = (event, (refl, cc))
kind-of (event ∷ events) (suc i) kind is = kind-of events i kind is

whole : (event : Event) → event ≡ event_of (event_kind event) (event_value event)
whole (Store word value) = refl
whole Barrier = refl
whole CallEnd = refl

pub kind-reported : (events : List Event) (i : ℕ) (kind : EventKind) → option_map event_kind (slice_get events i) ≡ Some kind → slice_get events i ≡ Some (event_of kind (value_at events i))
kind-reported events i kind is =
    let found = kind-of events i kind is in
    kind_get events i found.0 kind found.1.0 (whole found.0 ∙ ap (λ k. event_of k (event_value found.0)) found.1.1)
