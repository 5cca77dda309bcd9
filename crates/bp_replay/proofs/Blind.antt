-- A run of caches does the same whatever values are stored: its log alone has them.
use Rattle.std.proofs.Common.{◌≡◌, ℕ, zero, suc, ◌+◌, ◌%◌, ◌<◌, ◌≤◌, subst, Bool, true, false, cond, eqb, leb, ◌&&◌, ◌||◌, Option, Some, None, List, [], ◌∷◌, ◌++◌, length, get_or, set, take, map, refl, sym, ◌∙◌, ap}
use Rattle.std.specs.List.{slice_get, range_with_len}
use Rattle.std.specs.Option.{option_map}
use Rattle.std.proofs.lemmas.List.{length-map, map-append}
use Rattle.std.proofs.lemmas.Option.{slice_get-map}
use Rattle.pm_epochs.specs.declared.event.Event.{Event}
use Rattle.pm_epochs.specs.declared.event.Event.TheVariants.{Store as Set, Barrier as Fence, CallEnd}
use Rattle.pm_epochs.specs.declared.event.EventKind.{EventKind}
use Rattle.pm_epochs.specs.declared.event.EventKind.TheVariants as kinds
use Rattle.pm_epochs.specs.Kind.{event_of}
use Rattle.pm_epochs.specs.Log.{barriers, epoch_stores}
use Rattle.pm_epochs.specs.May.{StoresMay}
use Rattle.pm_epochs.specs.Replay.{PowerCut, IsRight}
use Rattle.pm_cores.specs.declared.entry.Entry.{Entry}
use Rattle.pm_cores.specs.declared.entry.Entry.TheVariants.{Load, Store, Barrier}
use Rattle.pm_cores.specs.declared.entry.Owner.{Owner}
use Rattle.pm_cores.specs.Log.{core_barriers, epoch_at}
use Rattle.pm_cores.specs.Caches.{Caches, caches_over, owner_at, line_owner, is_up_to, entry_is_up_to, entry_is_of, settled, written_by, written_under, logged, ready_to_load, ready_to_store, stored, after_load, after_store}
use Rattle.pm_cores.specs.Choice.{dirty_epoch, first_epoch, flag_in, mask_to, cut_at}
use Rattle.pm_cores.proofs.Views.{map_range_same}
use Rattle.bp_replay.proofs.CacheRuns.{stored_below}
use Rattle.bp_replay.specs.Generator.{next_state, drawn}
use Rattle.bp_replay.specs.Cache.{may_go, after_back, after_event, last_word, by_draw, after_draw, cache_run, cache_moment, cache_cut, without_value}

-- ## Logs without values

abbrev pub bare : Entry → Entry
bare (Load core word) = Load core word
bare (Store core word value) = Store core word 0
bare (Barrier core) = Barrier core

abbrev pub bared : Caches → Caches
bared caches = record caches { log = map bare caches.log }

core_barriers-bare : (core : ℕ) (log : List Entry) → core_barriers core (map bare log) ≡ core_barriers core log
core_barriers-bare core [] = refl
core_barriers-bare core (Load other word ∷ log) = core_barriers-bare core log
core_barriers-bare core (Store other word value ∷ log) = core_barriers-bare core log
core_barriers-bare core (Barrier other ∷ log) = ap (λ n. cond (eqb other core) 1 0 + n) (core_barriers-bare core log)

epoch_at-bare : (log : List Entry) (core place : ℕ) → epoch_at (map bare log) core place ≡ epoch_at log core place
epoch_at-bare log core zero = refl
epoch_at-bare [] core (suc place) = refl
epoch_at-bare (Load other word ∷ log) core (suc place) = epoch_at-bare log core place
epoch_at-bare (Store other word value ∷ log) core (suc place) = epoch_at-bare log core place
epoch_at-bare (Barrier other ∷ log) core (suc place) = ap (λ n. cond (eqb other core) 1 0 + n) (epoch_at-bare log core place)

up_to-bare : (owner : Owner) (log : List Entry) (place : ℕ) (entry : Option Entry) → entry_is_up_to owner (map bare log) place (option_map bare entry) ≡ entry_is_up_to owner log place entry
up_to-bare owner log place None = refl
up_to-bare owner log place (Some (Load core word)) = refl
up_to-bare owner log place (Some (Store core word value)) = ap (is_up_to owner core) (epoch_at-bare log core place)
up_to-bare owner log place (Some (Barrier core)) = refl

of-bare : (owner : Owner) (word : ℕ) (log : List Entry) (place : ℕ) (entry : Option Entry) → entry_is_of owner word (map bare log) place (option_map bare entry) ≡ entry_is_of owner word log place entry
of-bare owner word log place None = refl
of-bare owner word log place (Some (Load core other)) = refl
of-bare owner word log place (Some (Store core other value)) = ap (λ n. eqb other word && (eqb core owner.core && eqb n owner.epoch)) (epoch_at-bare log core place)
of-bare owner word log place (Some (Barrier core)) = refl

-- ## What goes back

module _ (caches : Caches) where
  -- flags by a test of each entry that no value plays a part in
  abbrev Test : Type 0
  Test = List Entry → ℕ → Option Entry → Bool

  abbrev flags_by : Test → List Entry → List Bool
  flags_by test log = map (λ place. get_or caches.back place false || test log place (slice_get log place)) (range_with_len 0 (length log))

  flags-bare : (test : Test) → ((place : ℕ) (entry : Option Entry) → test (map bare caches.log) place (option_map bare entry) ≡ test caches.log place entry) → flags_by test (map bare caches.log) ≡ flags_by test caches.log
  flags-bare test same =
      let log = caches.log in
      ap (λ n. map (λ place. get_or caches.back place false || test (map bare log) place (slice_get (map bare log) place)) (range_with_len 0 n)) (length-map log bare)
      ∙ map_range_same (λ place. get_or caches.back place false || test (map bare log) place (slice_get (map bare log) place)) (λ place. get_or caches.back place false || test log place (slice_get log place)) (length log)
      (λ place low. ap (λ b. get_or caches.back place false || b) (ap (test (map bare log) place) (slice_get-map bare log place) ∙ same place (slice_get log place)))

  settled-bare : (owner : Owner) → settled (bared caches) owner ≡ bared (settled caches owner)
  unfolding settled
  settled-bare owner = ap (λ back. record (bared (settled caches owner)) { back = back }) (flags-bare (entry_is_up_to owner) (up_to-bare owner caches.log))

  written_by-bare : (word : ℕ) (owner : Owner) → written_by (bared caches) word owner ≡ bared (written_by caches word owner)
  unfolding written_by
  written_by-bare word owner = ap (λ back. record (bared (written_by caches word owner)) { back = back }) (flags-bare (entry_is_of owner word) (of-bare owner word caches.log))

  written_under-bare : (word : ℕ) (owner : Option Owner) → written_under (bared caches) word owner ≡ bared (written_under caches word owner)
  written_under-bare word None = refl
  written_under-bare word (Some owner) = written_by-bare word owner

  either : (test : Bool) (left right : Caches) → left ≡ bared right → cond test (bared caches) left ≡ bared (cond test caches right)
  either true left right same = refl
  either false left right same = same

  -- ## What the calls do

  ready_to_load-bare : (core : ℕ) (owner : Option Owner) → ready_to_load (bared caches) core owner ≡ bared (ready_to_load caches core owner)
  ready_to_load-bare core None = refl
  ready_to_load-bare core (Some owner) = either (eqb owner.core core) (settled (bared caches) owner) (settled caches owner) (settled-bare owner)

  ready_to_store-bare : (core epoch : ℕ) (owner : Option Owner) → ready_to_store (bared caches) core epoch owner ≡ bared (ready_to_store caches core epoch owner)
  ready_to_store-bare core epoch None = refl
  ready_to_store-bare core epoch (Some owner) = either (eqb owner.core core && leb epoch owner.epoch) (settled (bared caches) owner) (settled caches owner) (settled-bare owner)

  logged-bare : (entry : Entry) → logged (bared caches) (bare entry) ≡ bared (logged caches entry)
  logged-bare entry = ap (λ log. record (logged caches entry) { log = log }) (sym (map-append bare caches.log (entry ∷ [])))

  stored-bare : (core word value : ℕ) → stored (bared caches) core word 0 ≡ bared (stored caches core word value)
  stored-bare core word value =
      ap (λ epoch. record (logged (bared caches) (Store core word 0)) { owners = set caches.owners word (Some (record { core = core; epoch = epoch })) }) (core_barriers-bare core caches.log)
      ∙ ap (λ log. record (stored caches core word value) { log = log }) (sym (map-append bare caches.log (Store core word value ∷ [])))

after_load-bare : (caches : Caches) (core word : ℕ) → after_load (bared caches) core word ≡ bared (after_load caches core word)
unfolding after_load
after_load-bare caches core word =
    ap (λ it. logged it (Load core word)) (ready_to_load-bare caches core (line_owner caches word))
    ∙ logged-bare (ready_to_load caches core (line_owner caches word)) (Load core word)

after_store-bare : (caches : Caches) (core word value : ℕ) → after_store (bared caches) core word 0 ≡ bared (after_store caches core word value)
unfolding after_store
after_store-bare caches core word value =
    let owner = line_owner caches word in
    let epoch = core_barriers core caches.log in
    ap (λ n. stored (ready_to_store (bared caches) core n owner) core word 0) (core_barriers-bare core caches.log)
    ∙ ap (λ it. stored it core word 0) (ready_to_store-bare caches core epoch owner)
    ∙ stored-bare (ready_to_store caches core epoch owner) core word value

-- ## The run

after_back-bare : (caches : Caches) (word : ℕ) → after_back (bared caches) word ≡ bared (after_back caches word)
unfolding after_back
after_back-bare caches word = by (may_go caches word)
  where
    by : (test : Bool) → cond test (written_under (bared caches) word (owner_at caches word)) (bared caches) ≡ bared (cond test (written_under caches word (owner_at caches word)) caches)
    by true = written_under-bare caches word (owner_at caches word)
    by false = refl

by_draw-bare : (caches : Caches) (word eighth : ℕ) → by_draw (bared caches) word eighth ≡ bared (by_draw caches word eighth)
unfolding by_draw
by_draw-bare caches word eighth = by (eqb eighth 0) (leb eighth 4)
  where
    by : (load back : Bool) → cond load (after_load (bared caches) 1 word) (cond back (after_back (bared caches) word) (bared caches)) ≡ bared (cond load (after_load caches 1 word) (cond back (after_back caches word) caches))
    by true back = after_load-bare caches 1 word
    by false true = after_back-bare caches word
    by false false = refl

after_draw-bare : (caches : Caches) (last : Option ℕ) (draw : ℕ) → after_draw (bared caches) last draw ≡ bared (after_draw caches last draw)
after_draw-bare caches None draw = refl
after_draw-bare caches (Some word) draw = by_draw-bare caches word _

after_event-bare : (caches : Caches) (event : Event) → after_event (bared caches) (without_value event) ≡ bared (after_event caches event)
after_event-bare caches (Set word value) = after_store-bare caches 0 word value
after_event-bare caches Fence = logged-bare caches (Barrier 0)
after_event-bare caches CallEnd = refl

last_word-bare : (last : Option ℕ) (event : Event) → last_word last (without_value event) ≡ last_word last event
last_word-bare last (Set word value) = refl
last_word-bare last Fence = refl
last_word-bare last CallEnd = refl

pub cache_run-bare : (caches : Caches) (last : Option ℕ) (state : ℕ) (events : List Event) → cache_run (bared caches) last state (map without_value events) ≡ bared (cache_run caches last state events)
cache_run-bare caches last state [] = refl
cache_run-bare caches last state (event ∷ events) =
    let next = after_event caches event in
    let word = last_word last event in
    let rest = map without_value events in
    ap (λ it. cache_run (after_draw it (last_word last (without_value event)) (drawn state)) (last_word last (without_value event)) (next_state state) rest) (after_event-bare caches event)
    ∙ ap (λ at. cache_run (after_draw (bared next) at (drawn state)) at (next_state state) rest) (last_word-bare last event)
    ∙ ap (λ it. cache_run it word (next_state state) rest) (after_draw-bare next word (drawn state))
    ∙ cache_run-bare (after_draw next word (drawn state)) word (next_state state) events

-- ## The cut

flag_in-bare : (core epoch : ℕ) (log : List Entry) (back : List Bool) (place : ℕ) (entry : Option Entry) → flag_in core epoch (map bare log) back place (option_map bare entry) ≡ flag_in core epoch log back place entry
flag_in-bare core epoch log back place None = refl
flag_in-bare core epoch log back place (Some (Load other word)) = refl
flag_in-bare core epoch log back place (Some (Store other word value)) = ap (λ n. cond (eqb other core && eqb n epoch) (get_or back place false ∷ []) []) (epoch_at-bare log other place)
flag_in-bare core epoch log back place (Some (Barrier other)) = refl

mask_to-bare : (core epoch : ℕ) (log : List Entry) (back : List Bool) (place : ℕ) → mask_to core epoch (map bare log) back place ≡ mask_to core epoch log back place
mask_to-bare core epoch log back zero = refl
mask_to-bare core epoch log back (suc place) =
    ap (λ mask. mask ++ flag_in core epoch (map bare log) back place (slice_get (map bare log) place)) (mask_to-bare core epoch log back place)
    ∙ ap (λ flag. mask_to core epoch log back place ++ flag) (ap (flag_in core epoch (map bare log) back place) (slice_get-map bare log place) ∙ flag_in-bare core epoch log back place (slice_get log place))

pub cut_at-bare : (caches : Caches) (moment : ℕ) → cut_at (bared caches) moment ≡ cut_at caches moment
cut_at-bare caches moment =
    let log = caches.log in
    ap (λ n. record { moment = moment; epoch = first_epoch 0 n caches.owners; mask = mask_to 0 (first_epoch 0 n caches.owners) (map bare log) caches.back (length (map bare log)) }) (core_barriers-bare 0 log)
    ∙ ap (λ n. record { moment = moment; epoch = dirty_epoch 0 caches; mask = mask_to 0 (dirty_epoch 0 caches) (map bare log) caches.back n }) (length-map log bare)
    ∙ ap (λ mask. record { moment = moment; epoch = dirty_epoch 0 caches; mask = mask }) (mask_to-bare 0 (dirty_epoch 0 caches) log caches.back (length log))

-- of a run from caches in which nothing is stored yet
pub cut-blind : (caches : Caches) (last : Option ℕ) (state : ℕ) (events : List Event) (moment : ℕ) → caches.log ≡ [] → cut_at (cache_run caches last state (map without_value events)) moment ≡ cut_at (cache_run caches last state events) moment
cut-blind caches last state events moment none =
    let same : bared caches ≡ caches = ap (λ log. record caches { log = map bare log }) none ∙ ap (λ log. record caches { log = log }) (sym none) in
    ap (λ it. cut_at (cache_run it last state (map without_value events)) moment) (sym same)
    ∙ ap (λ it. cut_at it moment) (cache_run-bare caches last state events)
    ∙ cut_at-bare (cache_run caches last state events) moment

pub take-map : (n : ℕ) (events : List Event) → take n (map without_value events) ≡ map without_value (take n events)
take-map zero events = refl
take-map (suc n) [] = refl
take-map (suc n) (event ∷ events) = ap (λ es. without_value event ∷ es) (take-map n events)

pub cache_cut-blind : (cores words capacity : ℕ) (events : List Event) (seed : ℕ) → cache_cut (caches_over cores words capacity) (map without_value events) seed ≡ cache_cut (caches_over cores words capacity) events seed
cache_cut-blind cores words capacity events seed =
    let begun = caches_over cores words capacity in
    let moment = cache_moment events seed in
    ap (λ n. cut_at (cache_run begun None (next_state seed) (take (drawn seed % (n + 1)) (map without_value events))) (drawn seed % (n + 1))) (length-map events without_value)
    ∙ ap (λ es. cut_at (cache_run begun None (next_state seed) es) moment) (take-map moment events)
    ∙ cut-blind begun None (next_state seed) (take moment events) moment refl

-- ## A log without values

pub get-bare : (events : List Event) (i : ℕ) (kind : EventKind) (value : ℕ) → slice_get events i ≡ Some (event_of kind value) → slice_get (map without_value events) i ≡ Some (event_of kind 0)
get-bare events i kind value is = slice_get-map without_value events i ∙ ap (option_map without_value) is ∙ ap Some (of kind)
  where
    of : (kind : EventKind) → without_value (event_of kind value) ≡ event_of kind 0
    of (kinds.Store word) = refl
    of kinds.Barrier = refl
    of kinds.CallEnd = refl

may-bare : (bound : ℕ) (events : List Event) → StoresMay (λ at its. at < bound) events → StoresMay (λ at its. at < bound) (map without_value events)
may-bare bound [] may = tt
may-bare bound (Set word value ∷ events) may = (may.0, may-bare bound events may.1)
may-bare bound (Fence ∷ events) may = may-bare bound events may
may-bare bound (CallEnd ∷ events) may = may-bare bound events may

pub below-bare : (bound : ℕ) (events : List Event) (i : ℕ) (kind : EventKind) (value : ℕ) → StoresMay (λ at its. at < bound) events → slice_get events i ≡ Some (event_of kind value) → (word other : ℕ) → event_of kind 0 ≡ Set word other → word < bound
below-bare bound events i kind value may is word other same = stored_below bound (map without_value events) i word other (may-bare bound events may) (get-bare events i kind value is ∙ ap Some same)

barriers-bare : (events : List Event) → barriers (map without_value events) ≡ barriers events
barriers-bare [] = refl
barriers-bare (Set word value ∷ events) = barriers-bare events
barriers-bare (Fence ∷ events) = ap suc (barriers-bare events)
barriers-bare (CallEnd ∷ events) = barriers-bare events

epoch_stores-bare : (epoch : ℕ) (events : List Event) → epoch_stores epoch (map without_value events) ≡ epoch_stores epoch events
epoch_stores-bare epoch [] = refl
epoch_stores-bare zero (Set word value ∷ events) = ap suc (epoch_stores-bare zero events)
epoch_stores-bare (suc epoch) (Set word value ∷ events) = epoch_stores-bare (suc epoch) events
epoch_stores-bare zero (Fence ∷ events) = refl
epoch_stores-bare (suc epoch) (Fence ∷ events) = epoch_stores-bare epoch events
epoch_stores-bare zero (CallEnd ∷ events) = epoch_stores-bare zero events
epoch_stores-bare (suc epoch) (CallEnd ∷ events) = epoch_stores-bare (suc epoch) events

-- a choice that is right without the values is right
pub right-bare : (events : List Event) (cut : PowerCut) → IsRight (map without_value events) cut → IsRight events cut
right-bare events cut right =
    let done = take-map cut.moment events in
    record {
      moment = subst (λ n. cut.moment ≤ n) (length-map events without_value) right.moment;
      epoch = subst (λ n. cut.epoch ≤ n) (ap barriers done ∙ barriers-bare (take cut.moment events)) right.epoch;
      mask = subst (λ n. length cut.mask ≤ n) (ap (epoch_stores cut.epoch) done ∙ epoch_stores-bare cut.epoch (take cut.moment events)) right.mask;
    }
