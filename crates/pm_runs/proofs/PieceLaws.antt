-- Stores that follow each other in a log, and their values.
use Rattle.std.proofs.Common.{◌≡◌, ℕ, zero, suc, ◌+◌, ◌<◌, ◌≤◌, min, List, [], ◌∷◌, ◌++◌, Some, length, take, drop, get_or, map, set, refl, sym, ap, ◌∙◌, arith}
use Rattle.std.specs.List.{slice_get}
use Rattle.std.proofs.lemmas.List.{drop-drop, drop-map, drop-set-lt, get_or-drop, length-drop, length-map, length-take-le, take_more, take-take}
use Rattle.std.proofs.lemmas.Slice.{drop-append-drop}
use Rattle.std.proofs.Math.Seq.{take-append_seam}
use Rattle.pm_epochs.specs.declared.event.Event.{Event}
use Rattle.pm_epochs.specs.declared.event.Event.TheVariants.{Store, Barrier, CallEnd}
use Rattle.pm_epochs.specs.Kind.{event_value, value_at}
use Rattle.pm_region.specs.Memory.{AreInRow, Follows, stores_from}
use Rattle.pm_runs.specs.Runs.{ReportsRun}
use Rattle.pm_runs.specs.declared.pieces.Run.TheVariants as run

-- ## One event more

-- one event more of those from one on
pub events-more : (events : List Event) (first i : ℕ) (event : Event) → first + i < length events → event ≡ get_or events (first + i) event
    → take (i + 1) (drop first events) ≡ take i (drop first events) ++ event ∷ []
events-more events first i event low is =
    take_more (drop first events) i event (omega (arith, length-drop first events))
    ∙ ap (λ e. take i (drop first events) ++ e ∷ []) (get_or-drop first events i event ∙ sym is)

-- the values after it are as they were
pub rest-more : {X : Type 0} (old values : List X) (i : ℕ) (value : X) → drop i values ≡ drop i old → drop (i + 1) (set values i value) ≡ drop (i + 1) old
rest-more old values i value same =
    drop-set-lt (i + 1) values i value (omega arith) ∙ sym (drop-drop 1 i values) ∙ ap (drop 1) same ∙ drop-drop 1 i old

-- ## Stores in a row

-- of as many first events each but the first is a store to the word after that of the one before it
abbrev AreNext : List Event → ℕ → Type 0
AreNext events count = (i : ℕ) (event next : Event) → suc i < count → slice_get events i ≡ Some event → slice_get events (suc i) ≡ Some next → Follows event next

get-drop : (events : List Event) (first i : ℕ) → slice_get (drop first events) i ≡ slice_get events (first + i)
get-drop events zero i = let same : i ≡ 0 + i = omega arith in ap (slice_get events) same
get-drop [] (suc first) zero = refl
get-drop [] (suc first) (suc i) = refl
get-drop (event ∷ events) (suc first) i =
    let same : suc (first + i) ≡ suc first + i = omega arith in
    get-drop events first i ∙ ap (slice_get (event ∷ events)) same

row-drop : (events : List Event) (first count : ℕ) → AreInRow events first count → AreNext (drop first events) count
row-drop events first count row i event next low at after =
    let place : first + i + 1 ≡ first + suc i = omega arith in
    row i event next (omega arith)
    (sym (get-drop events first i) ∙ at)
    (ap (slice_get events) place ∙ sym (get-drop events first (suc i)) ∙ after)

-- those after a store
stores-following : (word value count : ℕ) (events : List Event) → count ≤ length events → AreNext (Store word value ∷ events) (suc count) → take count events ≡ stores_from (word + 1) (take count (map event_value events))
stores-following word value zero events fits row = refl
stores-following word value (suc count) [] fits row = absurd (omega arith)
stores-following word value (suc count) (Store next other ∷ events) fits row =
    let follows : next ≡ word + 1 = row 0 (Store word value) (Store next other) (omega arith) refl refl in
    let rest = stores-following next other count events (omega arith) (λ i event after low here there. row (suc i) event after (omega arith) here there) in
    ap (λ w. Store w other ∷ take count events) follows
    ∙ ap (λ es. Store (word + 1) other ∷ es) (rest ∙ ap (λ w. stores_from (w + 1) (take count (map event_value events))) follows)
stores-following word value (suc count) (Barrier ∷ events) fits row = absurd (row 0 (Store word value) Barrier (omega arith) refl refl)
stores-following word value (suc count) (CallEnd ∷ events) fits row = absurd (row 0 (Store word value) CallEnd (omega arith) refl refl)

stores-first : (word value count : ℕ) (events : List Event) → slice_get events 0 ≡ Some (Store word value) → count ≤ length events → AreNext events count → take count events ≡ stores_from word (take count (map event_value events))
stores-first word value zero events is fits row = refl
stores-first word value (suc count) [] is fits row = absurd (omega arith)
stores-first word value (suc count) (Store place other ∷ events) is fits row =
    let same : place ≡ word = cc in
    ap (λ w. Store w other ∷ take count events) same
    ∙ ap (λ es. Store word other ∷ es) (stores-following place other count events (omega arith) row ∙ ap (λ w. stores_from (w + 1) (take count (map event_value events))) same)
stores-first word value (suc count) (Barrier ∷ events) is fits row = cc
stores-first word value (suc count) (CallEnd ∷ events) is fits row = cc

-- as many events from one on are the stores of their values to words in a row
pub row-stores : (events : List Event) (first count word value : ℕ) → slice_get events first ≡ Some (Store word value) → first + count ≤ length events → AreInRow events first count
    → take count (drop first events) ≡ stores_from word (take count (drop first (map event_value events)))
row-stores events first count word value is fits row =
    let here : first + 0 ≡ first = omega arith in
    stores-first word value count (drop first events) (get-drop events first 0 ∙ ap (slice_get events) here ∙ is) (omega (arith, length-drop first events)) (row-drop events first count row)
    ∙ ap (λ vs. stores_from word (take count vs)) (sym (drop-map event_value first events))

-- fewer of them are in a row too
pub row-prefix : (events : List Event) (first len count : ℕ) → count ≤ len → AreInRow events first len → AreInRow events first count
row-prefix events first len count fits row i event next low at after = row i event next (omega arith) at after

-- a run of a log, whose values are copied before these
pub reported-row : (events : List Event) (first len count word : ℕ) (old values new : List ℕ) → slice_get events first ≡ Some (Store word (value_at events first)) → 0 < len → first + len ≤ length events → AreInRow events first len
    → values ≡ take len (drop first (map event_value events)) → count ≡ min (length values) (length old) → new ≡ take count values ++ drop count old → ReportsRun events first old (run.Stores word count) new
reported-row events first len count word old values new is some fits row values_are count_is copied =
    let brought = drop first (map event_value events) in
    let long : length values ≡ len = ap length values_are ∙ length-take-le len brought (omega (arith, length-drop first (map event_value events), length-map events event_value)) in
    let few : count ≤ len = omega (arith, count_is, long) in
    let prefix : length (take count values) ≡ count = length-take-le count values (omega (arith, long, few)) in
    let seam : take count new ≡ take count values = ap (take count) copied ∙ ap (λ n. take n (take count values ++ drop count old)) (sym prefix) ∙ take-append_seam (take count values) (drop count old) in
    let of_log : take count values ≡ take count brought = ap (take count) values_are ∙ take-take count len brought few in
    record {
      reported = row-stores events first count word (value_at events first) is (omega (arith, fits, few)) (row-prefix events first len count few row) ∙ ap (stores_from word) (sym (seam ∙ of_log));
      within = omega (arith, fits, few);
      begun = λ room. omega (arith, count_is, long, some, room);
      kind = is;
      fits = omega (arith, count_is);
      rest = ap (drop count) copied ∙ drop-append-drop count old (take count values) count (omega (arith, prefix)) prefix;
    }

-- an event that is no store
pub reported-one : (events : List Event) (first : ℕ) (event : Event) → slice_get events first ≡ Some event → take 1 (drop first events) ≡ event ∷ []
reported-one [] zero event is = cc
reported-one [] (suc first) event is = cc
reported-one (other ∷ events) zero event is = let same : other ≡ event = cc in ap (λ e. e ∷ []) same
reported-one (other ∷ events) (suc first) event is = reported-one events first event is
