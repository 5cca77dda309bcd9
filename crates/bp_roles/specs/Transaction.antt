-- Images of version 3 and transactions: the image outside and inside a transaction.
--
-- Outside a transaction the slots are the files, the snapshot and a spare one. Inside it, the spare slot has the tree of
-- the transaction, which its calls see as the files; and the files of the outside are seen as the snapshot, so that no
-- call stores to their blocks.
use Rattle.std.specs.Prelude.{◌≡◌, ◌≢◌, ◌⊎◌, ◌/◌, ◌<◌, ◌≤◌, ℕ, Bool, true, false, not, List, [], ◌∷◌, ◌++◌, slice_index_or}
use Rattle.pm_epochs.specs.declared.event.Event.{Event}
use Rattle.pm_epochs.specs.declared.event.Event.TheVariants.{Store, Barrier, CallEnd}
use Rattle.pm_epochs.specs.Log.{IsStoredIn, call_ends, words_after}
use Rattle.pm_epochs.specs.Replay.{after_calls}
use Rattle.pm_epochs.specs.Crash.{CrashRight}
use Rattle.bp_limits.specs.Limits.{block_words, super_magic, super_root, super_size}
use Rattle.bp_layout.specs.Words.{Image, word}
use Rattle.bp_layout.specs.Same.{Same}
use Rattle.bp_layout.specs.Trees.{has_snapshot, snapshot_of}
use Rattle.bp_roles.specs.Mounted.{SameDurable, by_roles}
use Rattle.bp_roles.specs.Roles.{magic_of}
use Rattle.bp_roles.specs.Seen.{seen_words}
use Rattle.bp_roles.specs.declared.roles.Roles.{Roles}
use Rattle.bp_roles.specs.declared.roles.Roles.TheVariants.{OutsideA, OutsideB, InsideA, InsideB}

-- The roles outside a transaction, under the magic number `BPFSRS3A` or, if `is_b`, under `BPFSRS3B`.
abbrev pub outside : Bool → Roles
outside false = OutsideA
outside true = OutsideB

-- The roles inside a transaction, likewise.
abbrev pub inside : Bool → Roles
inside false = InsideA
inside true = InsideB

-- The place at which a word is seen outside a transaction if it is seen at this place inside. Past the first 8 words it
-- is the same place.
unfoldable pub outside_place : ℕ → ℕ
outside_place place = slice_index_or (0 ∷ 1 ∷ 6 ∷ 7 ∷ 2 ∷ 3 ∷ 4 ∷ 5 ∷ []) place place

-- The events that begin a transaction in this image, both as seen outside: the spare slot becomes a copy of the slot of
-- the files. After them the roles are those inside.
abbrev pub begin_events : Image → List Event
begin_events image = Store 6 (word image super_root) ∷ Store 7 (word image super_size) ∷ Barrier ∷ []

-- A word of the spare slot, as seen outside.
abbrev pub IsSpare : ℕ → Type 0
IsSpare place = (place ≡ 6) ⊎ (place ≡ 7)

-- The stored events that commit a transaction: one store, of the other magic number. After them the roles are those
-- outside, under that magic number.
abbrev pub commit_events : Bool → List Event
commit_events is_b = Barrier ∷ Store super_magic (magic_of (outside (not is_b))) ∷ Barrier ∷ []

-- No store goes to a block of the snapshot, nor to a word of the superblock except the two for the inode file. Each call
-- that changes files meets this (`IsShort` of bp_changes).
pub record AvoidsSnapshot (in_snapshot : ℕ → Bool) (events : List Event) : Type 0 where
  pub keeps : (place : ℕ) → block_words ≤ place → in_snapshot (place / block_words) ≡ true → IsStoredIn events place → ⊥
  pub idle : (place : ℕ) → place < block_words → place ≢ super_root → place ≢ super_size → IsStoredIn events place → ⊥

-- The image seen inside a transaction has the files seen outside, both as its files and as its snapshot.
pub record BeginsInside (outside_image inside_image : Image) : Type 0 where
  pub files : Same outside_image inside_image
  pub snapshot : Same outside_image (snapshot_of inside_image)
  pub there : has_snapshot inside_image ≡ true

-- The events of the calls inside a transaction, its commit, and the end-of-call marker of the commit.
abbrev pub transaction : Bool → List Event → List Event
transaction is_b events = events ++ (commit_events is_b ++ CallEnd ∷ [])

-- A crash at any point of a transaction leaves an image that represents the files after the surviving calls. After each
-- call inside these are still the files from before the transaction. After the commit they are its tree.
pub record IsOneStore (is_b : Bool) (image : Image) (events : List Event) : Type 0 where
  pub right : CrashRight SameDurable image (transaction is_b events)
  pub before : (count : ℕ) → count ≤ call_ends events → SameDurable (after_calls image (transaction is_b events) count) image
  pub after : Same (seen_words (inside is_b) (words_after image events)) (by_roles (words_after image (transaction is_b events)))
