-- Where the events of one kind stand in a log.
use Rattle.std.proofs.Common.{◌≡◌, ℕ, zero, suc, ◌+◌, ◌<◌, ◌≤◌, Bool, true, false, List, [], ◌∷◌, ◌++◌, length, take, get_or, refl, sym, ◌∙◌, ap, arith}
use Rattle.std.proofs.lemmas.Bool.Decides.{nat_tests}
use Rattle.std.proofs.lemmas.List.{append-nil}
use Rattle.pm_epochs.specs.declared.event.Event.{Event}
use Rattle.pm_epochs.specs.declared.event.Event.TheVariants.{Store, Barrier, CallEnd}
use Rattle.pm_epochs.specs.Log.{barriers, call_ends}
use Rattle.pm_region.specs.Epochs.{epoch_start}
use Rattle.pm_region.specs.Memory.{stores_from}
use Rattle.pm_region.proofs.EpochLaws.{epoch_start-low}
use Rattle.pm_raw.specs.Places.{Placed, noted, places_where, is_barrier, is_call_end, count_below, start_after}

noted-append : (is_one : Bool) (at : ℕ) (places more : List ℕ) → noted is_one at (places ++ more) ≡ noted is_one at places ++ more
noted-append true at places more = refl
noted-append false at places more = refl

-- events after a log
pub places-append : (is_one : Event → Bool) (at : ℕ) (log more : List Event) → places_where is_one at (log ++ more) ≡ places_where is_one at log ++ places_where is_one (at + length log) more
places-append is_one at [] more = let here : at ≡ at + 0 = omega arith in ap (λ n. places_where is_one n more) here
places-append is_one at (event ∷ log) more =
    let there : suc at + length log ≡ at + suc (length log) = omega arith in
    ap (noted (is_one event) at) (places-append is_one (suc at) log more ∙ ap (λ n. places_where is_one (suc at) log ++ places_where is_one n more) there)
    ∙ noted-append (is_one event) at (places_where is_one (suc at) log) (places_where is_one (at + suc (length log)) more)

pub places-few : (is_one : Event → Bool) (at : ℕ) (log : List Event) → length (places_where is_one at log) ≤ length log
places-few is_one at [] = omega arith
places-few is_one at (event ∷ log) = let rest = places-few is_one (suc at) log in few (is_one event) rest
  where
    few : (is : Bool) → length (places_where is_one (suc at) log) ≤ length log → length (noted is at (places_where is_one (suc at) log)) ≤ suc (length log)
    few true rest = omega arith
    few false rest = omega arith

-- no place of a log is before its first event
below-none : (is_one : Event → Bool) (bound at : ℕ) (log : List Event) → bound ≤ at → count_below bound (places_where is_one at log) ≡ 0
below-none is_one bound at [] low = refl
below-none is_one bound at (event ∷ log) low = suffix (is_one event) (below-none is_one bound (suc at) log (omega arith))
  where
    suffix : (is : Bool) → count_below bound (places_where is_one (suc at) log) ≡ 0 → count_below bound (noted is at (places_where is_one (suc at) log)) ≡ 0
    suffix true rest = grind (arith, nat_tests, rest, low)
    suffix false rest = rest

below-next : (is : Bool) (bound at count : ℕ) (places : List ℕ) (prefix : List ℕ) → at < bound → count_below bound places ≡ length prefix → count_below bound (noted is at places) ≡ length (noted is at prefix)
below-next true bound at count places prefix low same = grind (arith, nat_tests, same, low)
below-next false bound at count places prefix low same = same

-- the places before an event are those of the log's prefix
pub below-prefix : (is_one : Event → Bool) (at n : ℕ) (log : List Event) → count_below (at + n) (places_where is_one at log) ≡ length (places_where is_one at (take n log))
below-prefix is_one at zero log = below-none is_one (at + 0) at log (omega arith)
below-prefix is_one at (suc n) [] = refl
below-prefix is_one at (suc n) (event ∷ log) =
    let there : suc at + n ≡ at + suc n = omega arith in
    below-next (is_one event) (at + suc n) at 0 (places_where is_one (suc at) log) (places_where is_one (suc at) (take n log)) (omega arith)
    (ap (λ bound. count_below bound (places_where is_one (suc at) log)) (sym there) ∙ below-prefix is_one (suc at) n log)

pub barriers-places : (at : ℕ) (log : List Event) → length (places_where is_barrier at log) ≡ barriers log
barriers-places at [] = refl
barriers-places at (Store word value ∷ log) = barriers-places (suc at) log
barriers-places at (Barrier ∷ log) = ap suc (barriers-places (suc at) log)
barriers-places at (CallEnd ∷ log) = barriers-places (suc at) log

pub call_ends-places : (at : ℕ) (log : List Event) → length (places_where is_call_end at log) ≡ call_ends log
call_ends-places at [] = refl
call_ends-places at (Store word value ∷ log) = call_ends-places (suc at) log
call_ends-places at (Barrier ∷ log) = call_ends-places (suc at) log
call_ends-places at (CallEnd ∷ log) = ap suc (call_ends-places (suc at) log)

pub barriers-below : (log : List Event) (places : List ℕ) (n : ℕ) → places ≡ places_where is_barrier 0 log → count_below n places ≡ barriers (take n log)
barriers-below log places n are =
    let from_start : n ≡ 0 + n = omega arith in
    ap (count_below n) are ∙ ap (λ bound. count_below bound (places_where is_barrier 0 log)) from_start ∙ below-prefix is_barrier 0 n log ∙ barriers-places 0 (take n log)

pub call_ends-below : (log : List Event) (places : List ℕ) (n : ℕ) → places ≡ places_where is_call_end 0 log → count_below n places ≡ call_ends (take n log)
call_ends-below log places n are =
    let from_start : n ≡ 0 + n = omega arith in
    ap (count_below n) are ∙ ap (λ bound. count_below bound (places_where is_call_end 0 log)) from_start ∙ below-prefix is_call_end 0 n log ∙ call_ends-places 0 (take n log)

-- an epoch begins after the barrier with its number
start-at : (epoch at : ℕ) (log : List Event) → epoch < barriers log → at + epoch_start (suc epoch) log ≡ suc (get_or (places_where is_barrier at log) epoch 0)
start-at epoch at [] begun = absurd (omega arith)
start-at epoch at (Store word value ∷ log) begun = let rest = start-at epoch (suc at) log begun in omega arith
start-at zero at (Barrier ∷ log) begun = omega arith
start-at (suc epoch) at (Barrier ∷ log) begun = let rest = start-at epoch (suc at) log (omega arith) in omega arith
start-at epoch at (CallEnd ∷ log) begun = let rest = start-at epoch (suc at) log begun in omega arith

-- so the places of a log's barriers show where each of its epochs begins, which is no later than its end
pub start-places : (epoch : ℕ) (log : List Event) (places : List ℕ) → places ≡ places_where is_barrier 0 log → epoch ≤ barriers log → start_after places epoch ≡ epoch_start epoch log
start-places zero log places are begun = refl
start-places (suc epoch) log places are begun = omega (arith, start-at epoch 0 log (omega arith), ap (λ ps. get_or ps epoch 0) are)

pub epochs-places : (epoch : ℕ) (log : List Event) (places : List ℕ) → places ≡ places_where is_barrier 0 log → epoch ≤ barriers log → epoch ≤ length places
epochs-places epoch log places are begun = omega (arith, ap length are, barriers-places 0 log)

pub start-small : (epoch : ℕ) (log : List Event) (places : List ℕ) → places ≡ places_where is_barrier 0 log → epoch ≤ barriers log → start_after places epoch ≤ length log
start-small epoch log places are begun = omega (arith, start-places epoch log places are begun, epoch_start-low epoch log)

-- stores have no place
pub places-stores : (is_one : Event → Bool) (at word : ℕ) (values : List ℕ) → ((place value : ℕ) → is_one (Store place value) ≡ false) → places_where is_one at (stores_from word values) ≡ []
places-stores is_one at word [] none = refl
places-stores is_one at word (value ∷ values) none = ap (λ is. noted is at (places_where is_one (suc at) (stores_from (word + 1) values))) (none word value) ∙ places-stores is_one (suc at) (word + 1) values none

-- ## Places that code holds, after more events

pub placed-more : (is_one : Event → Bool) (old new : Placed) (log next more : List Event) (count size next_size : ℕ) →
    length log ≡ count → next ≡ log ++ more → next_size ≡ size → old ≡ record { items = places_where is_one 0 log; room = size } →
    new ≡ record old { items = old.items ++ places_where is_one count more } → new ≡ record { items = places_where is_one 0 next; room = next_size }
placed-more is_one old new log next more count size next_size long next_is size_is old_is new_is =
    let here : 0 + length log ≡ count = omega (arith, long) in
    let items : places_where is_one 0 next ≡ places_where is_one 0 log ++ places_where is_one count more =
    ap (places_where is_one 0) next_is ∙ places-append is_one 0 log more ∙ ap (λ n. places_where is_one 0 log ++ places_where is_one n more) here in
    new_is
    ∙ ap (λ (placed : Placed). record placed { items = placed.items ++ places_where is_one count more }) old_is
    ∙ ap (placed_as (places_where is_one 0 log ++ places_where is_one count more)) (sym size_is)
    ∙ ap (λ ps. placed_as ps next_size) (sym items)
  where
    placed_as : List ℕ → ℕ → Placed
    placed_as places room = record { items = places; room = room }

pub placed-stores : (is_one : Event → Bool) (placed : Placed) (log next : List Event) (word : ℕ) (values : List ℕ) (size next_size : ℕ) →
    ((place value : ℕ) → is_one (Store place value) ≡ false) → next ≡ log ++ stores_from word values → next_size ≡ size →
    placed ≡ record { items = places_where is_one 0 log; room = size } → placed ≡ record { items = places_where is_one 0 next; room = next_size }
placed-stores is_one placed log next word values size next_size none next_is size_is is =
    let nothing : placed.items ++ places_where is_one (length log) (stores_from word values) ≡ placed.items =
    ap (λ ps. placed.items ++ ps) (places-stores is_one (length log) word values none) ∙ append-nil placed.items in
    placed-more is_one placed placed log next (stores_from word values) (length log) size next_size refl next_is size_is is
    (ap (λ ps. record placed { items = ps }) (sym nothing))

-- where a log has room for one more event, so have its places
pub placed-room : (is_one : Event → Bool) (placed : Placed) (log : List Event) (room : ℕ) →
    placed ≡ record { items = places_where is_one 0 log; room = room } → length log < room → length placed.items < placed.room
placed-room is_one placed log room is more =
    omega (arith, more, places-few is_one 0 log, ap (λ (p : Placed). length p.items) is, ap (λ (p : Placed). p.room) is)

pub placed-none : (is_one : Event → Bool) (old new : Placed) (log next : List Event) (size next_size : ℕ) →
    next ≡ [] → next_size ≡ size → old ≡ record { items = places_where is_one 0 log; room = size } → new ≡ record { items = []; room = old.room } →
    new ≡ record { items = places_where is_one 0 next; room = next_size }
placed-none is_one old new log next size next_size none size_is old_is new_is =
    new_is
    ∙ ap (λ (placed : Placed). placed_as [] placed.room) old_is
    ∙ ap (placed_as []) (sym size_is)
    ∙ ap (λ es. placed_as (places_where is_one 0 es) next_size) (sym none)
  where
    placed_as : List ℕ → ℕ → Placed
    placed_as places room = record { items = places; room = room }
