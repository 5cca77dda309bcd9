-- The events of the calls that change only words of the superblock.
use Rattle.std.specs.Prelude.{ℕ, Option, None, Some, List, [], ◌∷◌, ◌++◌, flat_map, map}
use Rattle.pm_epochs.specs.declared.event.Event.{Event}
use Rattle.pm_epochs.specs.declared.event.Event.TheVariants.{Barrier, Store}
use Rattle.bp_layout.specs.Format.{to_three_epochs, upgrade_epochs}
use Rattle.bp_layout.specs.Words.{Image, word}
use Rattle.bp_limits.specs.Limits.{super_root, super_snapshot_root, super_snapshot_size, super_size}
use Rattle.bp_plain.specs.Calls.{Call}
use Rattle.bp_plain.specs.Calls.Call.{snap, unsnap, upgrade, upgrade_to_three}

-- The events of some stores in an epoch of their own: the stores, and then a barrier.
abbrev pub stores_epoch : List (ℕ × ℕ) → List Event
stores_epoch stores = map (λ store. Store store.0 store.1) stores ++ Barrier ∷ []

-- The events of an upgrade: 0 to the words that version 2 uses for the snapshot, and then the magic number of version
-- 2.
abbrev pub upgrade_events : List Event
upgrade_events = flat_map stores_epoch upgrade_epochs

-- The events of an upgrade to version 3: 0 to the words of the superblock that have a meaning there, and then its magic
-- number.
abbrev pub to_three_events : List Event
to_three_events = flat_map stores_epoch to_three_epochs

-- The events of `snap`: the root word of the first tree is stored as that of the second, and once it is written back,
-- the size. There is no second tree until the size is stored.
abbrev pub snap_events : Image → List Event
snap_events image = Store super_snapshot_root (word image super_root) ∷ Barrier
    ∷ Store super_snapshot_size (word image super_size) ∷ Barrier ∷ []

-- The events of `unsnap`: the size of the second tree is set to 0. This size alone determines whether there is a
-- second tree.
abbrev pub unsnap_events : List Event
unsnap_events = Barrier ∷ Store super_snapshot_size 0 ∷ Barrier ∷ []

-- The events of each call that changes only the superblock. Its last store is to the word that decides its effect.
abbrev pub super_events : Image → Call → Option (List Event)
super_events image upgrade = Some upgrade_events
super_events image upgrade_to_three = Some to_three_events
super_events image snap = Some (snap_events image)
super_events image unsnap = Some unsnap_events
super_events image call = None
