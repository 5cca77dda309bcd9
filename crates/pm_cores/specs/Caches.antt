-- Caches that keep the order of each core's epochs.
use Rattle.std.specs.Prelude.{◌≡◌, ℕ, ◌*◌, ◌<◌, ◌≤◌, ◌==◌, nat_le, ◌&&◌, ◌||◌, Bool, false, if◌then◌else◌, Option, Some, None, List, [], ◌∷◌, ◌++◌, length, take, drop, map, replicate, slice_get, slice_index, slice_index_or, slice_set}
use Rattle.std.specs.List.{range_with_len}
use Rattle.pm_cores.specs.declared.entry.Entry.{Entry}
use Rattle.pm_cores.specs.declared.entry.Entry.TheVariants.{Load, Store, Barrier}
use Rattle.pm_cores.specs.declared.entry.Owner.{Owner}
use Rattle.pm_cores.specs.Log.{core_barriers, epoch_at, last_value, words_back, line_at}

-- The state of the caches: the number of cores, the number of words, the owner of each dirty word, the log and its
-- capacity. `back` has a flag for each entry of the log: whether it is a store that is written back. The words of the
-- memory are not part of the state: they are a region's words with the stores that are written back.
pub record Caches : Type 0 where
  pub cores : ℕ
  pub words : ℕ
  pub owners : List (Option Owner)
  pub log : List Entry
  pub back : List Bool
  pub capacity : ℕ

-- The state before anything is executed.
abbrev pub caches_over : ℕ → ℕ → ℕ → Caches
caches_over cores words capacity = record {
  cores = cores;
  words = words;
  owners = replicate words None;
  log = [];
  back = [];
  capacity = capacity;
}

-- The words of the memory: the base with the stores that are written back, in the order of the log.
abbrev pub memory_over : List ℕ → Caches → List ℕ
memory_over base caches = words_back base caches.log caches.back

-- A word as each core sees it: the last store to it, or the base's word.
abbrev pub value_at : List ℕ → Caches → ℕ → ℕ
value_at base caches word = last_value (slice_index base word) caches.log word

abbrev pub owner_at : Caches → ℕ → Option Owner
owner_at caches word = slice_index_or caches.owners word None

-- The owner of the dirty words of a line, which is the owner of the line's first dirty word.
abbrev pub first_owner : List (Option Owner) → Option Owner
first_owner [] = None
first_owner (None ∷ owners) = first_owner owners
first_owner (Some owner ∷ owners) = Some owner

abbrev pub line_owner : Caches → ℕ → Option Owner
line_owner caches word = first_owner (take 8 (drop (8 * line_at word) caches.owners))

-- ## What is written back

-- Whether this is the core and its epoch, or an earlier epoch of that core.
abbrev pub is_up_to : Owner → ℕ → ℕ → Bool
is_up_to owner core epoch = core == owner.core && nat_le epoch owner.epoch

abbrev pub owner_is_up_to : Owner → Option Owner → Bool
owner_is_up_to owner None = false
owner_is_up_to owner (Some other) = is_up_to owner other.core other.epoch

-- Whether the entry at a position is a store of the owner's core, of the owner's epoch or an earlier one.
abbrev pub entry_is_up_to : Owner → List Entry → ℕ → Option Entry → Bool
entry_is_up_to owner log place None = false
entry_is_up_to owner log place (Some (Load core word)) = false
entry_is_up_to owner log place (Some (Store core word value)) = is_up_to owner core (epoch_at log core place)
entry_is_up_to owner log place (Some (Barrier core)) = false

-- A settle: all dirty words of an owner's core, of its epoch and earlier ones, are written back, with all stores to
-- them.
unfoldable pub settled : Caches → Owner → Caches
settled caches owner = record caches {
  owners = map (λ other. if owner_is_up_to owner other then None else other) caches.owners;
  back = map (λ place. slice_index_or caches.back place false || entry_is_up_to owner caches.log place (slice_get caches.log place))
      (range_with_len 0 (length caches.log));
}

-- Whether the entry at a position is a store of this owner to this word.
abbrev pub entry_is_of : Owner → ℕ → List Entry → ℕ → Option Entry → Bool
entry_is_of owner word log place None = false
entry_is_of owner word log place (Some (Load core other)) = false
entry_is_of owner word log place (Some (Store core other value)) =
    other == word && (core == owner.core && epoch_at log core place == owner.epoch)
entry_is_of owner word log place (Some (Barrier core)) = false

-- One dirty word is written back, with all stores of its owner to it so far.
unfoldable pub written_by : Caches → ℕ → Owner → Caches
written_by caches word owner = record caches {
  owners = slice_set caches.owners word None;
  back = map (λ place. slice_index_or caches.back place false || entry_is_of owner word caches.log place (slice_get caches.log place))
      (range_with_len 0 (length caches.log));
}

abbrev pub written_under : Caches → ℕ → Option Owner → Caches
written_under caches word None = caches
written_under caches word (Some owner) = written_by caches word owner

abbrev pub with_back : Caches → ℕ → Caches
with_back caches word = written_under caches word (owner_at caches word)

-- ## What the calls do

abbrev pub logged : Caches → Entry → Caches
logged caches entry = record caches { log = caches.log ++ entry ∷ []; back = caches.back ++ false ∷ [] }

-- Before a load: a line that is dirty under another core is settled.
abbrev pub ready_to_load : Caches → ℕ → Option Owner → Caches
ready_to_load caches core None = caches
ready_to_load caches core (Some owner) = if owner.core == core then caches else settled caches owner

-- Before a store of an epoch: a line is settled if it is dirty under another core, or under an older epoch of the same
-- core.
abbrev pub ready_to_store : Caches → ℕ → ℕ → Option Owner → Caches
ready_to_store caches core epoch None = caches
ready_to_store caches core epoch (Some owner) =
    if owner.core == core && nat_le epoch owner.epoch then caches else settled caches owner

-- The word is dirty, and its new value waits.
abbrev pub stored : Caches → ℕ → ℕ → ℕ → Caches
stored caches core word value = record (logged caches (Store core word value)) {
  owners = slice_set caches.owners word (Some (record { core = core; epoch = core_barriers core caches.log }));
}

unfoldable pub after_load : Caches → ℕ → ℕ → Caches
after_load caches core word = logged (ready_to_load caches core (line_owner caches word)) (Load core word)

unfoldable pub after_store : Caches → ℕ → ℕ → ℕ → Caches
after_store caches core word value =
    stored (ready_to_store caches core (core_barriers core caches.log) (line_owner caches word)) core word value

abbrev pub after_barrier : Caches → ℕ → Caches
after_barrier caches core = logged caches (Barrier core)

-- ## Which words may be written back alone

-- This word is dirty under this owner.
abbrev pub IsDirtyUnder : Caches → ℕ → Owner → Type 0
IsDirtyUnder caches word owner = slice_get caches.owners word ≡ Some (Some owner)

-- The dirty words of a word's line are this core's.
abbrev pub IsOpenToLoad : Caches → ℕ → ℕ → Type 0
IsOpenToLoad caches core word =
    (other : ℕ) (owner : Owner) → IsDirtyUnder caches other owner → line_at other ≡ line_at word → owner.core ≡ core

-- The dirty words of a word's line are this core's, and of its current epoch.
abbrev pub IsOpenToStore : Caches → ℕ → ℕ → Type 0
IsOpenToStore caches core word =
    (other : ℕ) (owner : Owner) → IsDirtyUnder caches other owner → line_at other ≡ line_at word →
    owner ≡ record { core = core; epoch = core_barriers core caches.log }

-- The word is dirty, and its owner's core has no dirty word of an earlier epoch.
pub record MayLeave (caches : Caches) (word : ℕ) : Type 0 where
  pub owner : Owner
  pub under : IsDirtyUnder caches word owner
  pub earliest : (other : ℕ) (its : Owner) → IsDirtyUnder caches other its → its.core ≡ owner.core → owner.epoch ≤ its.epoch

-- The lowest dirty word of the earliest epoch of which the owner's core has a dirty word, if that epoch is earlier
-- than the word's own.
pub record IsNeeded (caches : Caches) (word needs : ℕ) : Type 0 where
  pub owner : Owner
  pub under : IsDirtyUnder caches word owner
  pub first : Owner
  pub needed : IsDirtyUnder caches needs first
  pub same_core : first.core ≡ owner.core
  pub earlier : first.epoch < owner.epoch
  pub earliest : (other : ℕ) (its : Owner) → IsDirtyUnder caches other its → its.core ≡ owner.core → first.epoch ≤ its.epoch
  pub lowest : (other : ℕ) → IsDirtyUnder caches other first → needs ≤ other
