-- The cut at which the machine stands after a storm, found from where the storm's epoch begins.
use Rattle.std.proofs.Common.{◌≡◌, ℕ, zero, suc, ◌+◌, ◌<◌, ◌≤◌, Bool, true, false, not, ◌||◌, Some, List, [], ◌∷◌, ◌++◌, length, take, drop, replicate, refl, sym, ◌∙◌, ap, arith, add-one, append_assoc}
use Rattle.std.specs.List.{slice_get}
use Rattle.std.proofs.lemmas.List.{append-nil, length-take}
use Rattle.pm_epochs.specs.declared.event.Event.{Event}
use Rattle.pm_epochs.specs.declared.event.Event.TheVariants.{Store, Barrier, CallEnd}
use Rattle.pm_epochs.specs.Log.{barriers}
use Rattle.pm_epochs.specs.Replay.{PowerCut, IsRight}
use Rattle.pm_region.specs.Epochs.{epoch_start}
use Rattle.pm_steps.specs.Machine.{open_epoch, epoch_flags, cut_of}
use Rattle.pm_steps.proofs.Scan.{open_epoch-none, epoch_flags-none}
use Rattle.pm_steps.proofs.Cuts.{right_open}
use Rattle.bp_replay.specs.Generator.{next_state}
use Rattle.bp_replay.specs.Storm.{goes_back, waiting_after, storm_flags}
use Rattle.bp_replay.proofs.Storms.{length-storm_flags, in_order_storm}

-- ## Event by event

-- one more store of the epoch is back or not, and the next epoch is come to
abbrev pub with_place : PowerCut → Bool → PowerCut
with_place cut flag = record cut { mask = cut.mask ++ flag ∷ [] }

abbrev pub at_next : PowerCut → PowerCut
at_next cut = record { moment = cut.moment; epoch = cut.epoch + 1; mask = [] }

-- The cut after these events: whether a store of the cut's epoch waits, and whether its stores are drawn for, since it is the
-- storm's own.
abbrev pub stands : List Event → Bool → Bool → ℕ → List ℕ → PowerCut → PowerCut
stands [] waits draws state waiting cut = cut
stands (Store word value ∷ events) waits true state waiting cut =
    let flag = goes_back state waiting word in
    stands events (waits || not flag) true (next_state state) (waiting_after flag waiting word) (with_place cut flag)
stands (Store word value ∷ events) waits false state waiting cut = stands events true false state waiting (with_place cut false)
stands (Barrier ∷ events) true draws state waiting cut = cut
stands (Barrier ∷ events) false draws state waiting cut = stands events false false state waiting (at_next cut)
stands (CallEnd ∷ events) waits draws state waiting cut = stands events waits draws state waiting cut

drop_suc : (events : List Event) (moment i : ℕ) (event : Event) → i < moment → slice_get events i ≡ Some event → drop i (take moment events) ≡ event ∷ drop (suc i) (take moment events)
drop_suc [] moment i event low is = cc
drop_suc (first ∷ events) zero i event low is = absurd (omega arith)
drop_suc (first ∷ events) (suc moment) zero event low is = let same : first ≡ event = cc in ap (λ e. e ∷ take moment events) same
drop_suc (first ∷ events) (suc moment) (suc i) event low is = drop_suc events moment i event (omega arith) is

pub drop_at : (events : List Event) (moment i : ℕ) (event : Event) → i < moment → slice_get events i ≡ Some event → drop i (take moment events) ≡ event ∷ drop (i + 1) (take moment events)
drop_at events moment i event low is = rw add-one (drop_suc events moment i event low is)

pub stands_at : (waits draws : Bool) (state : ℕ) (waiting : List ℕ) (cut : PowerCut) (events : List Event) (moment i : ℕ) (event : Event) → i < moment → slice_get events i ≡ Some event
    → stands (drop i (take moment events)) waits draws state waiting cut ≡ stands (event ∷ drop (i + 1) (take moment events)) waits draws state waiting cut
stands_at waits draws state waiting cut events moment i event low is = ap (λ es. stands es waits draws state waiting cut) (drop_at events moment i event low is)

-- ## By the flags

abbrev flags_on : Bool → ℕ → List ℕ → List Event → List Bool
flags_on true state waiting events = storm_flags state 0 waiting events
flags_on false state waiting events = replicate (length events) false

-- the flags of the epoch where the machine stands, after those of the epoch that it came from
abbrev mask_on : ℕ → List Bool → List Event → List Bool → List Bool
mask_on zero mask events back = mask ++ epoch_flags 0 events back
mask_on (suc more) mask events back = epoch_flags (suc more) events back

abbrev cut_on : PowerCut → List Event → List Bool → PowerCut
cut_on cut events back = record {
  moment = cut.moment;
  epoch = cut.epoch + open_epoch events back;
  mask = mask_on (open_epoch events back) cut.mask events back;
}

-- where a store waits, its epoch is the one
abbrev cut_here : PowerCut → List Event → List Bool → PowerCut
cut_here cut events back = record cut { mask = cut.mask ++ epoch_flags 0 events back }

here-nil : (cut : PowerCut) → cut ≡ record cut { mask = cut.mask ++ [] }
here-nil cut = ap (λ m. record cut { mask = m }) (sym (append-nil cut.mask))

here-place : (cut : PowerCut) (flag : Bool) (word value : ℕ) (events : List Event) (back : List Bool) → cut_here (with_place cut flag) events back ≡ cut_here cut (Store word value ∷ events) (flag ∷ back)
here-place cut flag word value events back = ap (λ m. record cut { mask = m }) (append_assoc cut.mask (flag ∷ []) (epoch_flags 0 events back))

stands_waiting : (events : List Event) (draws : Bool) (state : ℕ) (waiting : List ℕ) (cut : PowerCut) → stands events true draws state waiting cut ≡ cut_here cut events (flags_on draws state waiting events)
stands_waiting [] draws state waiting cut = here-nil cut
stands_waiting (Store word value ∷ events) true state waiting cut =
    let flag = goes_back state waiting word in
    stands_waiting events true (next_state state) (waiting_after flag waiting word) (with_place cut flag)
    ∙ here-place cut flag word value events (storm_flags (next_state state) 0 (waiting_after flag waiting word) events)
stands_waiting (Store word value ∷ events) false state waiting cut =
    stands_waiting events false state waiting (with_place cut false)
    ∙ here-place cut false word value events (replicate (length events) false)
stands_waiting (Barrier ∷ events) true state waiting cut = here-nil cut
stands_waiting (Barrier ∷ events) false state waiting cut = here-nil cut
stands_waiting (CallEnd ∷ events) true state waiting cut = stands_waiting events true state waiting cut
stands_waiting (CallEnd ∷ events) false state waiting cut = stands_waiting events false state waiting cut

mask_on-place : (more : ℕ) (mask : List Bool) (word value : ℕ) (events : List Event) (back : List Bool) → mask_on more (mask ++ true ∷ []) events back ≡ mask_on more mask (Store word value ∷ events) (true ∷ back)
mask_on-place zero mask word value events back = append_assoc mask (true ∷ []) (epoch_flags 0 events back)
mask_on-place (suc more) mask word value events back = refl

mask_on-call_end : (more : ℕ) (mask : List Bool) (events : List Event) (back : List Bool) → mask_on more mask events back ≡ mask_on more mask (CallEnd ∷ events) (false ∷ back)
mask_on-call_end zero mask events back = refl
mask_on-call_end (suc more) mask events back = refl

mask_on-nil : (more : ℕ) (events : List Event) (back : List Bool) → mask_on more [] events back ≡ epoch_flags more events back
mask_on-nil zero events back = refl
mask_on-nil (suc more) events back = refl

cut_is : (moment first second : ℕ) (left right : List Bool) → first ≡ second → left ≡ right → record { moment = moment; epoch = first; mask = left } ≡ (let cut : PowerCut = record { moment = moment; epoch = second; mask = right } in cut)
cut_is moment first second left right epoch mask = cc

on-nil : (cut : PowerCut) → cut ≡ cut_on cut [] []
on-nil cut = cut_is cut.moment cut.epoch (cut.epoch + 0) cut.mask (cut.mask ++ []) (omega arith) (sym (append-nil cut.mask))

on-waits : (cut : PowerCut) (word value : ℕ) (events : List Event) (back : List Bool) → cut_here (with_place cut false) events back ≡ cut_on cut (Store word value ∷ events) (false ∷ back)
on-waits cut word value events back =
    cut_is cut.moment cut.epoch (cut.epoch + 0) ((cut.mask ++ false ∷ []) ++ epoch_flags 0 events back) (cut.mask ++ false ∷ epoch_flags 0 events back) (omega arith) (append_assoc cut.mask (false ∷ []) (epoch_flags 0 events back))

on-back : (cut : PowerCut) (word value : ℕ) (events : List Event) (back : List Bool) → cut_on (with_place cut true) events back ≡ cut_on cut (Store word value ∷ events) (true ∷ back)
on-back cut word value events back = ap (λ m. record { moment = cut.moment; epoch = cut.epoch + open_epoch events back; mask = m }) (mask_on-place (open_epoch events back) cut.mask word value events back)

on-next : (cut : PowerCut) (events : List Event) (back : List Bool) → cut_on (at_next cut) events back ≡ cut_on cut (Barrier ∷ events) (false ∷ back)
on-next cut events back = cut_is cut.moment (cut.epoch + 1 + open_epoch events back) (cut.epoch + suc (open_epoch events back)) (mask_on (open_epoch events back) [] events back) (epoch_flags (open_epoch events back) events back) (omega arith) (mask_on-nil (open_epoch events back) events back)

on-call_end : (cut : PowerCut) (events : List Event) (back : List Bool) → cut_on cut events back ≡ cut_on cut (CallEnd ∷ events) (false ∷ back)
on-call_end cut events back = ap (λ m. record { moment = cut.moment; epoch = cut.epoch + open_epoch events back; mask = m }) (mask_on-call_end (open_epoch events back) cut.mask events back)

-- after a store that was drawn for
drawn_on : (flag : Bool) (word value : ℕ) (events : List Event) (state : ℕ) (waiting : List ℕ) (cut : PowerCut)
    → ((next : PowerCut) → stands events false true state waiting next ≡ cut_on next events (storm_flags state 0 waiting events))
    → stands events (false || not flag) true state (waiting_after flag waiting word) (with_place cut flag) ≡ cut_on cut (Store word value ∷ events) (flag ∷ storm_flags state 0 (waiting_after flag waiting word) events)
drawn_on true word value events state waiting cut more = more (with_place cut true) ∙ on-back cut word value events (storm_flags state 0 waiting events)
drawn_on false word value events state waiting cut more =
    stands_waiting events true state (waiting ++ word ∷ []) (with_place cut false)
    ∙ on-waits cut word value events (storm_flags state 0 (waiting ++ word ∷ []) events)

stands_on : (events : List Event) (draws : Bool) (state : ℕ) (waiting : List ℕ) (cut : PowerCut) → stands events false draws state waiting cut ≡ cut_on cut events (flags_on draws state waiting events)
stands_on [] draws state waiting cut = on-nil cut
stands_on (Store word value ∷ events) true state waiting cut =
    drawn_on (goes_back state waiting word) word value events (next_state state) waiting cut (λ next. stands_on events true (next_state state) waiting next)
stands_on (Store word value ∷ events) false state waiting cut =
    stands_waiting events false state waiting (with_place cut false) ∙ on-waits cut word value events (replicate (length events) false)
stands_on (Barrier ∷ events) true state waiting cut = stands_on events false state waiting (at_next cut) ∙ on-next cut events (replicate (length events) false)
stands_on (Barrier ∷ events) false state waiting cut = stands_on events false state waiting (at_next cut) ∙ on-next cut events (replicate (length events) false)
stands_on (CallEnd ∷ events) true state waiting cut = stands_on events true state waiting cut ∙ on-call_end cut events (storm_flags state 0 waiting events)
stands_on (CallEnd ∷ events) false state waiting cut = stands_on events false state waiting cut ∙ on-call_end cut events (replicate (length events) false)

-- ## Behind the epochs before the storm's

abbrev from_epoch : ℕ → List Event → List Event
from_epoch epoch events = drop (epoch_start epoch events) events

open_after : (state epoch : ℕ) (events : List Event) → epoch ≤ barriers events → open_epoch events (storm_flags state epoch [] events) ≡ epoch + open_epoch (from_epoch epoch events) (storm_flags state 0 [] (from_epoch epoch events))
open_after state zero events begun = omega arith
open_after state (suc epoch) [] begun = absurd (omega arith)
open_after state (suc epoch) (Store word value ∷ events) begun = open_after state (suc epoch) events begun
open_after state (suc epoch) (Barrier ∷ events) begun = let more = open_after state epoch events (omega arith) in omega arith
open_after state (suc epoch) (CallEnd ∷ events) begun = open_after state (suc epoch) events begun

flags_after : (state epoch total more : ℕ) (events : List Event) → total ≡ epoch + more → epoch ≤ barriers events → epoch_flags total events (storm_flags state epoch [] events) ≡ epoch_flags more (from_epoch epoch events) (storm_flags state 0 [] (from_epoch epoch events))
flags_after state zero total more events is begun = ap (λ e. epoch_flags e events (storm_flags state 0 [] events)) (let same : total ≡ more = omega arith in same)
flags_after state (suc epoch) zero more events is begun = absurd (omega arith)
flags_after state (suc epoch) (suc total) more [] is begun = absurd (omega arith)
flags_after state (suc epoch) (suc total) more (Store word value ∷ events) is begun = flags_after state (suc epoch) (suc total) more events is begun
flags_after state (suc epoch) (suc total) more (Barrier ∷ events) is begun = flags_after state epoch total more events (omega arith) (omega arith)
flags_after state (suc epoch) (suc total) more (CallEnd ∷ events) is begun = flags_after state (suc epoch) (suc total) more events is begun

-- ## Over the whole log

open_take : (events : List Event) (moment : ℕ) (back : List Bool) → length back ≤ moment → open_epoch (take moment events) back ≡ open_epoch events back
open_take events moment [] few = open_epoch-none (take moment events) ∙ sym (open_epoch-none events)
open_take events zero (flag ∷ back) few = absurd (omega arith)
open_take [] (suc moment) (flag ∷ back) few = refl
open_take (Store word value ∷ events) (suc moment) (true ∷ back) few = open_take events moment back (omega arith)
open_take (Store word value ∷ events) (suc moment) (false ∷ back) few = refl
open_take (Barrier ∷ events) (suc moment) (flag ∷ back) few = ap suc (open_take events moment back (omega arith))
open_take (CallEnd ∷ events) (suc moment) (flag ∷ back) few = open_take events moment back (omega arith)

flags_take : (epoch : ℕ) (events : List Event) (moment : ℕ) (back : List Bool) → length back ≤ moment → epoch_flags epoch (take moment events) back ≡ epoch_flags epoch events back
flags_take epoch events moment [] few = epoch_flags-none epoch (take moment events) ∙ sym (epoch_flags-none epoch events)
flags_take epoch events zero (flag ∷ back) few = absurd (omega arith)
flags_take epoch [] (suc moment) (flag ∷ back) few = refl
flags_take zero (Store word value ∷ events) (suc moment) (flag ∷ back) few = ap (λ fs. flag ∷ fs) (flags_take zero events moment back (omega arith))
flags_take (suc epoch) (Store word value ∷ events) (suc moment) (flag ∷ back) few = flags_take (suc epoch) events moment back (omega arith)
flags_take zero (Barrier ∷ events) (suc moment) (flag ∷ back) few = refl
flags_take (suc epoch) (Barrier ∷ events) (suc moment) (flag ∷ back) few = flags_take epoch events moment back (omega arith)
flags_take epoch (CallEnd ∷ events) (suc moment) (flag ∷ back) few = flags_take epoch events moment back (omega arith)

-- the machine's cut, from where the storm's epoch begins
stands_open : (state moment epoch : ℕ) (events own : List Event) → moment ≤ length events → epoch ≤ barriers (take moment events) → own ≡ from_epoch epoch (take moment events)
    → stands own false true state [] (record { moment = moment; epoch = epoch; mask = [] }) ≡ cut_of events (storm_flags state epoch [] (take moment events))
stands_open state moment epoch events own taken begun own_is =
    let prefix = take moment events in
    let back = storm_flags state epoch [] prefix in
    let rest = from_epoch epoch prefix in
    let flags = storm_flags state 0 [] rest in
    let more = open_epoch rest flags in
    let count : length back ≡ moment = length-storm_flags state epoch [] prefix ∙ omega (arith, length-take moment events) in
    let few : length back ≤ moment = omega arith in
    let epoch_is : open_epoch events back ≡ epoch + more = sym (open_take events moment back few) ∙ open_after state epoch prefix begun in
    let mask_is : epoch_flags (open_epoch events back) events back ≡ epoch_flags more rest flags =
    sym (flags_take (open_epoch events back) events moment back few) ∙ flags_after state epoch (open_epoch events back) more prefix epoch_is begun in
    let cut : PowerCut = record { moment = moment; epoch = epoch; mask = [] } in
    ap (λ es. stands es false true state [] cut) own_is
    ∙ stands_on rest true state [] cut
    ∙ cut_same moment (length back) (epoch + more) (open_epoch events back) (mask_on more [] rest flags) (epoch_flags (open_epoch events back) events back) (sym count) (sym epoch_is) (mask_on-nil more rest flags ∙ sym mask_is)
  where
    cut_same : (moment count first second : ℕ) (left right : List Bool) → moment ≡ count → first ≡ second → left ≡ right → record { moment = moment; epoch = first; mask = left } ≡ (let cut : PowerCut = record { moment = count; epoch = second; mask = right } in cut)
    cut_same moment count first second left right moment_is epoch_is mask_is = cc

-- ## The ends of the loop

pub stands_first : (state start moment : ℕ) (first : PowerCut) (events : List Event) → moment ≡ first.moment → first.moment ≤ length events → first.epoch ≤ barriers (take first.moment events) → start ≡ epoch_start first.epoch (take first.moment events) → first.mask ≡ []
    → stands (drop start (take moment events)) false true state [] first ≡ cut_of events (storm_flags state first.epoch [] (take first.moment events))
stands_first state start moment first events moment_is taken begun start_is mask_is =
    ap (λ m. stands (drop start (take m events)) false true state [] first) moment_is
    ∙ ap (λ m. stands (drop start (take first.moment events)) false true state [] (record { moment = first.moment; epoch = first.epoch; mask = m })) mask_is
    ∙ stands_open state first.moment first.epoch events (drop start (take first.moment events)) taken begun (ap (λ n. drop n (take first.moment events)) start_is)

pub stands_end : (events : List Event) (i : ℕ) (waits draws : Bool) (state : ℕ) (waiting : List ℕ) (cut : PowerCut) → length events ≤ i → stands (drop i events) waits draws state waiting cut ≡ cut
stands_end [] zero waits draws state waiting cut low = refl
stands_end [] (suc i) waits draws state waiting cut low = refl
stands_end (event ∷ events) zero waits draws state waiting cut low = absurd (omega arith)
stands_end (event ∷ events) (suc i) waits draws state waiting cut low = stands_end events i waits draws state waiting cut (omega arith)

-- where a store of the epoch waits, the machine goes no further
barrier_ends : (draws : Bool) (state : ℕ) (waiting : List ℕ) (cut : PowerCut) (events : List Event) → stands (Barrier ∷ events) true draws state waiting cut ≡ cut
barrier_ends true state waiting cut events = refl
barrier_ends false state waiting cut events = refl

pub stands_barrier : (waits draws : Bool) (state : ℕ) (waiting : List ℕ) (cut : PowerCut) (events : List Event) (moment i : ℕ) → i < moment → slice_get events i ≡ Some Barrier → waits ≡ true → stands (drop i (take moment events)) waits draws state waiting cut ≡ cut
stands_barrier waits draws state waiting cut events moment i low is waits_is =
    let rest = drop (i + 1) (take moment events) in
    stands_at waits draws state waiting cut events moment i Barrier low is
    ∙ ap (λ w. stands (Barrier ∷ rest) w draws state waiting cut) waits_is
    ∙ barrier_ends draws state waiting cut rest

pub right_drawn : (state epoch moment : ℕ) (events : List Event) → IsRight events (cut_of events (storm_flags state epoch [] (take moment events)))
right_drawn state epoch moment events = right_open events (storm_flags state epoch [] (take moment events)) (in_order_storm state epoch moment events)
