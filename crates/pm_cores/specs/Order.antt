-- The order that the caches keep.
use Rattle.std.specs.Prelude.{◌≡◌, ◌≢◌, ℕ, ◌+◌, ◌<◌, ◌≤◌, ◌==◌, ◌&&◌, if◌then◌else◌, Bool, true, false, Option, Some, None, is_none, List, [], ◌∷◌, ◌++◌, length, slice_get}
use Rattle.std.proofs.Common.{zero, suc}
use Rattle.pm_cores.specs.declared.entry.Entry.{Entry}
use Rattle.pm_cores.specs.declared.entry.Owner.{Owner}
use Rattle.pm_cores.specs.Log.{epoch_at, line_at, IsStore, IsUse}
use Rattle.pm_cores.specs.Caches.{Caches, owner_at, with_back, IsDirtyUnder, MayLeave}

-- The entry is a store to the word, and the log has no later one to it.
pub record IsLastStore (log : List Entry) (place core word : ℕ) : Type 0 where
  pub store : IsStore log place core word
  pub last : (other its_core : ℕ) → IsStore log other its_core word → other ≤ place

-- A store follows another core's store if its core used that store's line between them, or by the store itself.
pub record ComesAfter (log : List Entry) (earlier later : ℕ) : Type 0 where
  pub core : ℕ
  pub word : ℕ
  pub first : IsStore log earlier core word
  pub its_core : ℕ
  pub its_word : ℕ
  pub second : IsStore log later its_core its_word
  pub differ : its_core ≢ core
  pub use_place : ℕ
  pub used : IsUse log use_place its_core (line_at word)
  pub following : earlier < use_place
  pub before : use_place ≤ later

abbrev pub HasGoneBack : Caches → ℕ → Type 0
HasGoneBack caches place = slice_get caches.back place ≡ Some true

-- The invariant of the caches. A word is dirty exactly if the last store to it is not written back. A dirty word has a
-- store that is not written back, and is under the core and the epoch of each such store. A line's dirty words have
-- one owner. If a store is written back, so is each store of its core's earlier epochs, and each store that it
-- follows.
pub record IsCoherent (caches : Caches) : Type 0 where
  pub owners : length caches.owners ≡ caches.words
  pub flags : length caches.back ≡ length caches.log
  pub last : (place core word : ℕ) → IsLastStore caches.log place core word →
      slice_get caches.back place ≡ Some (is_none (owner_at caches word))
  pub dirty : (word : ℕ) (owner : Owner) → IsDirtyUnder caches word owner →
      (place : ℕ) × IsStore caches.log place owner.core word
      × (epoch_at caches.log owner.core place ≡ owner.epoch) × (slice_get caches.back place ≡ Some false)
  pub waiting : (place core word : ℕ) → IsStore caches.log place core word → slice_get caches.back place ≡ Some false →
      IsDirtyUnder caches word (record { core = core; epoch = epoch_at caches.log core place })
  pub line : (one two : ℕ) (owner its : Owner) → IsDirtyUnder caches one owner → IsDirtyUnder caches two its →
      line_at one ≡ line_at two → owner ≡ its
  pub epochs : (place core word other its_word : ℕ) → IsStore caches.log place core word → IsStore caches.log other core its_word →
      epoch_at caches.log core place < epoch_at caches.log core other → HasGoneBack caches other → HasGoneBack caches place
  pub follows : (earlier later : ℕ) → ComesAfter caches.log earlier later → HasGoneBack caches later → HasGoneBack caches earlier

-- Whether a word is dirty under this core and epoch.
abbrev pub is_under : ℕ → ℕ → Option Owner → Bool
is_under core epoch None = false
is_under core epoch (Some owner) = owner.core == core && owner.epoch == epoch

-- The words that are dirty under this core and epoch, by index, in order.
abbrev pub words_under : ℕ → ℕ → List (Option Owner) → ℕ → List ℕ
words_under core epoch [] place = []
words_under core epoch (owner ∷ owners) place =
    if is_under core epoch owner then place ∷ words_under core epoch owners (place + 1) else words_under core epoch owners (place + 1)

-- A core's dirty words up to an epoch, by epoch, then by word.
abbrev pub words_up_to : ℕ → ℕ → List (Option Owner) → List ℕ
words_up_to core zero owners = words_under core 0 owners 0
words_up_to core (suc epoch) owners = words_up_to core epoch owners ++ words_under core (suc epoch) owners 0

-- Dirty words are written back one after the other, each by a write-back that is allowed.
abbrev pub BacksTo : Caches → List ℕ → Caches → Type 0
BacksTo old [] new = old ≡ new
BacksTo old (word ∷ words) new = MayLeave old word × BacksTo (with_back old word) words new
