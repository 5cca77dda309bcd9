-- Conditions and results that the laws on images of version 3 have in common.
use Rattle.std.specs.Prelude.{◌≡◌, ◌≢◌, ◌≤◌, ℕ, Bool, true, false, not, List, length, slice_set}
use Rattle.pm_epochs.specs.declared.event.Event.{Event}
use Rattle.pm_epochs.specs.Log.{IsClosed, IsStoredIn, words_after}
use Rattle.pm_epochs.specs.Crash.{CrashRight}
use Rattle.pm_epochs.specs.May.{AnyAt, StoresMay}
use Rattle.pm_region.specs.Memory.{Adds}
use Rattle.bp_limits.specs.Limits.{super_magic}
use Rattle.bp_layout.specs.Words.{Image, word}
use Rattle.bp_layout.specs.Trees.{AreInSnapshot, has_snapshot, snapshot_of}
use Rattle.bp_layout.specs.WellFormed.{IsWellFormed}
use Rattle.bp_layout.specs.Whole.{IsFileSystem, SameFiles}
use Rattle.bp_roles.specs.Roles.{magic_of}
use Rattle.bp_roles.specs.Seen.{IsWide, MemoryByRoles, seen, seen_events, seen_words}
use Rattle.bp_roles.specs.Mounted.{by_roles}
use Rattle.bp_roles.specs.Transaction.{AvoidsSnapshot, IsSpare, begin_events, inside, outside}
use Rattle.bp_roles.specs.declared.roles.Roles.TheVariants.{OutsideB}

-- The image as it is seen outside a transaction, and inside one.
abbrev pub seen_outside : Bool → Image → Image
seen_outside is_b image = seen_words (outside is_b) image

abbrev pub seen_inside : Bool → Image → Image
seen_inside is_b image = seen_words (inside is_b) image

-- The image of the snapshot that is seen inside a transaction.
abbrev pub snapshot_inside : Bool → Image → Image
snapshot_inside is_b image = snapshot_of (seen_inside is_b image)

-- The image has all words that have roles, and at word 0 the magic number `BPFSRS3A` or, if `is_b`, `BPFSRS3B`.
pub record IsVersionThree (is_b : Bool) (image : Image) : Type 0 where
  pub wide : 8 ≤ length image
  pub magic : word image super_magic ≡ magic_of (outside is_b)

-- Seen outside, the image of version 3 has a well-formed tree and no snapshot.
pub record HasOnlyFiles (is_b : Bool) (image : Image) : Type 0 where
  pub version : IsVersionThree is_b image
  pub well_formed : IsWellFormed (seen_outside is_b image)
  pub alone : has_snapshot (seen_outside is_b image) ≡ false

-- Seen outside, the first image, of version 3, has a well-formed tree, and the second one is the first after a
-- transaction has begun.
pub record Begins (is_b : Bool) (image after : Image) : Type 0 where
  pub version : IsVersionThree is_b image
  pub well_formed : IsWellFormed (seen_outside is_b image)
  pub begun : seen_outside is_b after ≡ words_after (seen_outside is_b image) (begin_events (seen_outside is_b image))

-- Seen outside, each store goes to the spare slot.
abbrev pub StoresToSpare : Bool → List Event → Type 0
StoresToSpare is_b events = StoresMay (AnyAt IsSpare) (seen_events (outside is_b) events)

-- The image is of version 3. No store goes to word 0, and the log is right (`CrashRight`) as it is seen outside.
pub record IsRightOutside (is_b : Bool) (image : Image) (events : List Event) : Type 0 where
  pub version : IsVersionThree is_b image
  pub keeps_magic : IsStoredIn events super_magic → ⊥
  pub right : CrashRight SameFiles (seen_outside is_b image) (seen_events (outside is_b) events)

-- A transaction is open in an image of version 3: seen inside, it is a file system with a snapshot. Seen outside, it has
-- no snapshot.
pub record IsOpen (is_b : Bool) (image : Image) : Type 0 where
  pub version : IsVersionThree is_b image
  pub is : IsFileSystem (seen_inside is_b image)
  pub there : has_snapshot (seen_inside is_b image) ≡ true
  pub alone : has_snapshot (seen_outside is_b image) ≡ false

-- A transaction is open, and the events, as seen inside, store neither to a block of the snapshot seen inside nor to a
-- word of the superblock except the two for the inode file.
pub record CallsInside (is_b : Bool) (image : Image) (events : List Event) : Type 0 where
  pub in_snapshot : ℕ → Bool
  pub transaction : IsOpen is_b image
  pub are : AreInSnapshot (seen_inside is_b image) in_snapshot
  pub avoids : AvoidsSnapshot in_snapshot (seen_events (inside is_b) events)

-- The tree that is seen inside an image of version 3 is well-formed.
pub record HasTreeInside (is_b : Bool) (image : Image) : Type 0 where
  pub version : IsVersionThree is_b image
  pub well_formed : IsWellFormed (seen_inside is_b image)

-- The snapshot that is seen inside is well-formed.
pub record HasSnapshotInside (is_b : Bool) (image : Image) : Type 0 where
  pub wide : 8 ≤ length image
  pub well_formed : IsWellFormed (snapshot_inside is_b image)

-- The image has all words that have roles, and at word 0 another value than the magic number `BPFSRS3B`.
pub record IsSeenAsStored (image : Image) : Type 0 where
  pub wide : 8 ≤ length image
  pub other : word image super_magic ≢ magic_of OutsideB

-- Each store of the events has a barrier after it, and the tree seen inside after them is well-formed.
pub record MayCommit (is_b : Bool) (image : Image) (events : List Event) : Type 0 where
  pub closed : IsClosed events
  pub well_formed : IsWellFormed (seen_inside is_b (words_after image events))

-- The image as it is seen once a commit has stored the other magic number.
abbrev pub committed : Bool → Image → Image
committed is_b image = by_roles (slice_set image super_magic (magic_of (outside (not is_b))))

-- As they are seen by their roles, the second memory is the first with these events added to its log. Both have all
-- words that have roles.
pub record AddsSeen (old new : MemoryByRoles) (more : List Event) : Type 0 where
  pub wide : IsWide old.memory
  pub still_wide : IsWide new.memory
  pub adds : Adds (seen old) (seen new) more
