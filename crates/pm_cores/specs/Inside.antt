-- The representation of the caches in code.
use Rattle.std.specs.Prelude.{◌≡◌, ℕ, ◌-◌, ◌*◌, ◌^◌, ◌<◌, ◌≤◌, nat_le, not, Bool, true, false, Option, Some, None, List, [], ◌∷◌, length, map, take, slice_get, slice_index, vec_len, vec_capacity, if◌then◌else◌}
use Rattle.std.specs.List.{range_with_len}
use Rattle.std.proofs.Common.{zero, suc}
use Rattle.pm_cores.specs.declared.entry.Entry.{Entry}
use Rattle.pm_cores.specs.declared.entry.Entry.TheVariants.{Load, Store, Barrier}
use Rattle.pm_cores.specs.declared.entry.Owner.{Owner}
use Rattle.pm_cores.specs.Log.{core_of, core_barriers, epoch_at, last_value, line_at, IsStore, IsUse}
use Rattle.pm_cores.specs.Caches.{Caches, owner_is_up_to}
use Rattle.pm_cores.specs.declared.cores.Cores.TheInside.{Inside}

-- Whether the store at a position waits, where `first` is the number of entries up to the first waiting store to its
-- word, and 0 if none waits.
abbrev pub waits_at : ℕ → ℕ → Bool
waits_at zero place = false
waits_at (suc first) place = nat_le first place

-- The owner of a word, from the entry of its first waiting store and that entry's epoch.
abbrev pub owner_by : Option Entry → ℕ → Option Owner
owner_by None epoch = None
owner_by (Some (Load core word)) epoch = None
owner_by (Some (Store core word value)) epoch = Some (record { core = core; epoch = epoch })
owner_by (Some (Barrier core)) epoch = None

abbrev pub owner_since : List Entry → List ℕ → ℕ → Option Owner
owner_since log epochs zero = None
owner_since log epochs (suc first) = owner_by (slice_get log first) (slice_index epochs first)

-- The number of entries up to a word's first waiting store, after a settle: 0 if the word's owner is settled.
abbrev pub since_after : Owner → List Entry → List ℕ → ℕ → ℕ
since_after owner log epochs since = if owner_is_up_to owner (owner_since log epochs since) then 0 else since

-- The flag of a store that counts, whether it is written back, by that number.
abbrev pub flag_if : Bool → ℕ → ℕ → List Bool
flag_if counts since place = if counts then not (waits_at since place) ∷ [] else []

-- Whether the entry at a position is a store that is written back.
abbrev pub entry_is_back : List ℕ → ℕ → Option Entry → Bool
entry_is_back since place None = false
entry_is_back since place (Some (Load core word)) = false
entry_is_back since place (Some (Store core word value)) = not (waits_at (slice_index since word) place)
entry_is_back since place (Some (Barrier core)) = false

abbrev pub flags_of : List ℕ → List Entry → List Bool
flags_of since log = map (λ place. entry_is_back since place (slice_get log place)) (range_with_len 0 (length log))

abbrev pub owners_of : List ℕ → List Entry → List ℕ → List (Option Owner)
owners_of since log epochs = map (owner_since log epochs) since

-- The model of the caches.
abbrev pub caches_by : ℕ → ℕ → List ℕ → List Entry → List ℕ → ℕ → Caches
caches_by cores words since log epochs capacity = record {
  cores = cores;
  words = words;
  owners = owners_of since log epochs;
  log = log;
  back = flags_of since log;
  capacity = capacity;
}

abbrev pub caches_of : Inside → Caches
caches_of inside = caches_by (vec_len inside.counts) inside.words inside.since.items inside.log.items inside.epochs.items inside.room

-- A store that waits.
pub record Waits (since : List ℕ) (log : List Entry) (place core word : ℕ) : Type 0 where
  pub store : IsStore log place core word
  pub waits : waits_at (slice_index since word) place ≡ true

-- The recorded epochs are those of the log.
abbrev pub AreCounted : List Entry → List ℕ → Type 0
AreCounted log epochs = (place : ℕ) (entry : Entry) → slice_get log place ≡ Some entry →
    slice_index epochs place ≡ epoch_at log (core_of entry) place

-- The invariant of a log and the words that wait.
pub record AreSound (size : ℕ) (since : List ℕ) (log : List Entry) (epochs : List ℕ) : Type 0 where
  pub as_many_since : length since ≡ size
  pub as_many_epochs : length epochs ≡ length log
  pub words : (place core word : ℕ) → IsStore log place core word → word < size
  pub counted : AreCounted log epochs
  -- A word waits since a store to it.
  pub first : (word first : ℕ) → slice_index since word ≡ suc first → (core : ℕ) × IsStore log first core word
  -- All stores that wait on a line are of one core and one epoch.
  pub one : (place core word other its_core its_word : ℕ) → Waits since log place core word → Waits since log other its_core its_word →
      line_at word ≡ line_at its_word → (core ≡ its_core) × (epoch_at log core place ≡ epoch_at log its_core other)
  -- After a store that waits, no other core used its line, and all stores of its core of later epochs wait.
  pub alone : (place core word other its_core : ℕ) → Waits since log place core word → place < other →
      IsUse log other its_core (line_at word) → its_core ≡ core
  pub in_order : (place core word other its_word : ℕ) → Waits since log place core word → IsStore log other core its_word →
      epoch_at log core place < epoch_at log core other → waits_at (slice_index since its_word) other ≡ true

-- A word by the number of entries up to a store: the value of that store, or the word before the log if the number is
-- 0.
abbrev pub stored_by : Option Entry → ℕ → ℕ
stored_by None now = now
stored_by (Some (Load core word)) now = now
stored_by (Some (Store core word value)) now = value
stored_by (Some (Barrier core)) now = now

abbrev pub recorded_by : List Entry → ℕ → ℕ → ℕ
recorded_by log zero now = now
recorded_by log (suc place) now = stored_by (slice_get log place) now

-- Of each word the last store is recorded, and of each store the one before it to the same word.
pub record AreRecorded (words : ℕ) (lasts : List ℕ) (log : List Entry) (befores : List ℕ) : Type 0 where
  pub as_many_lasts : length lasts ≡ words
  pub as_many_befores : length befores ≡ length log
  pub store : (word last : ℕ) → slice_index lasts word ≡ suc last → (core : ℕ) × IsStore log last core word
  pub last : (word now : ℕ) → last_value now log word ≡ recorded_by log (slice_index lasts word) now
  pub within : (place core word : ℕ) → IsStore log place core word → slice_index befores place ≤ place
  pub before : (place core word now : ℕ) → IsStore log place core word →
      last_value now (take place log) word ≡ recorded_by log (slice_index befores place) now

-- None of a core's stores before its low position waits.
abbrev pub IsLow : List ℕ → List Entry → ℕ → ℕ → Type 0
IsLow since log core low = (place word : ℕ) → Waits since log place core word → low ≤ place

pub record HoldsCaches (inside : Inside) : Type 0 where
  pub sound : AreSound inside.words inside.since.items inside.log.items inside.epochs.items
  pub recorded : AreRecorded inside.words inside.lasts.items inside.log.items inside.befores.items
  pub lows : (core : ℕ) → core < vec_len inside.counts →
      IsLow inside.since.items inside.log.items core (slice_index inside.lows.items core)
  pub low_heights : (core : ℕ) → core < vec_len inside.counts → slice_index inside.lows.items core ≤ length inside.log.items
  pub counts : (core : ℕ) → core < vec_len inside.counts → slice_index inside.counts.items core ≡ core_barriers core inside.log.items
  pub known_cores : (place : ℕ) (entry : Entry) → slice_get inside.log.items place ≡ Some entry → core_of entry < vec_len inside.counts
  pub some_core : 0 < vec_len inside.counts
  pub as_many_lows : vec_len inside.lows ≡ vec_len inside.counts
  pub fits : vec_len inside.log ≤ inside.room
  pub few : inside.room < 2 ^ 32 - 1
  pub whole_lines : (lines : ℕ) × (inside.words ≡ 8 * lines)
  pub log_reserved : inside.room ≤ vec_capacity inside.log
  pub epochs_reserved : inside.room ≤ vec_capacity inside.epochs
  pub befores_reserved : inside.room ≤ vec_capacity inside.befores
