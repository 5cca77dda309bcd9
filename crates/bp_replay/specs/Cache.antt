-- A run of two cores' caches over the first events of a log, and what a crash then finds.
use Rattle.std.specs.Prelude.{◌≡◌, ℕ, ◌+◌, ◌%◌, ◌<◌, ◌≤◌, ◌==◌, nat_le, nat_lt, not, ◌&&◌, Bool, true, false, if◌then◌else◌, Option, Some, None, List, [], ◌∷◌, length, map, take}
use Rattle.std.specs.List.{list_all}
use Rattle.pm_epochs.specs.declared.event.Event.{Event}
use Rattle.pm_epochs.specs.declared.event.Event.TheVariants.{Store, Barrier, CallEnd}
use Rattle.pm_epochs.specs.Kind.{event_kind, event_of}
use Rattle.pm_epochs.specs.Replay.{PowerCut}
use Rattle.pm_cores.specs.declared.entry.Owner.{Owner}
use Rattle.pm_cores.specs.Caches.{Caches, owner_at, with_back, after_load, after_store, after_barrier}
use Rattle.pm_cores.specs.Choice.{cut_at}
use Rattle.bp_replay.specs.Generator.{next_state, drawn}

-- Whether a dirty word is no reason for a word of this owner to wait.
abbrev pub is_no_earlier : Owner → Option Owner → Bool
is_no_earlier owner None = true
is_no_earlier owner (Some its) = not (its.core == owner.core && nat_lt its.epoch owner.epoch)

-- Whether a word is dirty and may be written back.
abbrev pub may_go_by : Caches → Option Owner → Bool
may_go_by caches None = false
may_go_by caches (Some owner) = list_all (is_no_earlier owner) caches.owners

abbrev pub may_go : Caches → ℕ → Bool
may_go caches word = may_go_by caches (owner_at caches word)

-- A word is written back if it is dirty and may go.
unfoldable pub after_back : Caches → ℕ → Caches
after_back caches word = if may_go caches word then with_back caches word else caches

-- Core 0 executes an event. An end-of-call marker does nothing.
abbrev pub after_event : Caches → Event → Caches
after_event caches (Store word value) = after_store caches 0 word value
after_event caches Barrier = after_barrier caches 0
after_event caches CallEnd = caches

-- The word of the last store so far.
abbrev pub last_word : Option ℕ → Event → Option ℕ
last_word last (Store word value) = Some word
last_word last Barrier = last
last_word last CallEnd = last

-- What is drawn after an event, modulo 8: 0 is a load of the last store's word by core 1, 1 to 4 write that word back,
-- and the others do nothing.
unfoldable pub by_draw : Caches → ℕ → ℕ → Caches
by_draw caches word eighth =
    if eighth == 0 then after_load caches 1 word else if nat_le eighth 4 then after_back caches word else caches

abbrev pub after_draw : Caches → Option ℕ → ℕ → Caches
after_draw caches None draw = caches
after_draw caches (Some word) draw = by_draw caches word (draw % 8)

-- Each event, followed by what is drawn after it.
abbrev pub cache_run : Caches → Option ℕ → ℕ → List Event → Caches
cache_run caches last state [] = caches
cache_run caches last state (event ∷ events) =
    cache_run (after_draw (after_event caches event) (last_word last event) (drawn state)) (last_word last event)
    (next_state state) events

-- The event with 0 in place of its value.
abbrev pub without_value : Event → Event
without_value event = event_of (event_kind event) 0

-- The number of events that are executed.
abbrev pub cache_moment : List Event → ℕ → ℕ
cache_moment events seed = drawn seed % (length events + 1)

-- The crash point after the run.
abbrev pub cache_cut : Caches → List Event → ℕ → PowerCut
cache_cut begun events seed =
    cut_at (cache_run begun None (next_state seed) (take (cache_moment events seed) events)) (cache_moment events seed)

-- The crash point after a run from these caches does not depend on the values that are stored.
abbrev pub IsBlindToValues : Caches → Type 0
IsBlindToValues begun =
    (events : List Event) (seed : ℕ) → cache_cut begun (map without_value events) seed ≡ cache_cut begun events seed

-- The caches keep their numbers of cores and words and their capacity, and their log has at most this number of
-- entries.
pub record IsLike (begun : Caches) (entries : ℕ) (caches : Caches) : Type 0 where
  pub cores : caches.cores ≡ begun.cores
  pub words : caches.words ≡ begun.words
  pub capacity : caches.capacity ≡ begun.capacity
  pub few : length caches.log ≤ entries

-- The word, if there is one, is below this bound.
abbrev pub IsWordBelow : ℕ → Option ℕ → Type 0
IsWordBelow bound None = Unit {0}
IsWordBelow bound (Some word) = word < bound
