-- A new name in a directory, for an existing inode: the change that the stores make, and the sets of free blocks and
-- inodes after it.
use Rattle.std.specs.Prelude.{ℕ, ◌+◌, ◌*◌, Bool, Option}
use Rattle.bp_calls.specs.Created.{EntersName, LinksEntry}
use Rattle.bp_changes.specs.Entrant.{ForCreation, entrant_of}
use Rattle.bp_calls.specs.Growth.{stores_after_growth}
use Rattle.bp_calls.specs.Steps.{HasLooseWord, name_need}
use Rattle.bp_changes.specs.Performs.{PerformsThawed, PerformsWithin}
use Rattle.bp_free.specs.Set.{Set, without}
use Rattle.bp_free.specs.declared.parts.Parts.{Parts}
use Rattle.bp_layout.specs.Paths.{Name}
use Rattle.bp_layout.specs.Free.{IsLeastFree}
use Rattle.bp_layout.specs.Need.{Entrant}
use Rattle.bp_layout.specs.Need.Change.{enters}
use Rattle.bp_layout.specs.Need.Entrant.{linked, taken}
use Rattle.bp_layout.specs.Words.{Image}
use Rattle.bp_layout.specs.declared.fields.Kind.{Kind}
use Rattle.bp_limits.specs.Limits.{entry_words, inode_words}
use Rattle.bp_changes.specs.Sets.{AreExact, in_snapshot_of}
use Rattle.pm_region.specs.Memory.{Memory, current_words}

-- The new entry of directory `i` is made in as many blocks as a name for an existing inode takes, with 5 barriers and
-- within the bound on stores after a growth of the inode file.
abbrev pub PerformsEntry : (ℕ → Bool) → Memory → Memory → ℕ → Entrant → (Image → Image → Type 0) → Type 0
PerformsEntry in_snapshot old new i entrant Effect = PerformsWithin in_snapshot (name_need (current_words old) i) 5
    (stores_after_growth (name_need (current_words old) i)) old new (enters i entrant) Effect

-- A new name in slot `s` for the free inode `j`. Any blocks may be those of the snapshot, except the blocks of the
-- entry and of the inode.
abbrev pub EntersInSlot : Memory → Memory → ℕ → ℕ → ℕ → Name → Kind → Type 0
EntersInSlot old new i s j name kind =
    (in_snapshot : ℕ → Bool) → HasLooseWord (current_words old) in_snapshot i (entry_words * s + 0)
    → HasLooseWord (current_words old) in_snapshot 0 (inode_words * j + 0)
    → PerformsEntry in_snapshot old new i (taken j) (EntersName i name kind)

-- A new name in slot `s` for file `j`. Any blocks may be those of the snapshot, except the block of the entry.
abbrev pub LinksInSlot : Memory → Memory → ℕ → ℕ → Name → ℕ → Type 0
LinksInSlot old new i s name j =
    (in_snapshot : ℕ → Bool) → HasLooseWord (current_words old) in_snapshot i (entry_words * s + 0)
    → PerformsEntry in_snapshot old new i linked (LinksEntry i name j)

-- A new name for the least free inode. It takes as many blocks as a name for an existing inode.
abbrev pub EntersLeastFree : (ℕ → Bool) → Memory → Memory → ℕ → Name → Kind → Type 0
EntersLeastFree in_snapshot old new i name kind = (free : Option ℕ) → IsLeastFree (current_words old) free
    → PerformsEntry in_snapshot old new i (entrant_of free) (EntersName i name kind)

-- The creation of a name in directory `i` is made, with no block left to thaw before it.
abbrev pub PerformsCreation : (ℕ → Bool) → Memory → Memory → ℕ → Name → Kind → Type 0
PerformsCreation in_snapshot old new i name kind =
    ForCreation (current_words old) i (λ change. PerformsThawed in_snapshot old new change (EntersName i name kind))

-- ---- sets: with the same blocks kept, one set of blocks before and one after

-- A set that holds exactly the free inodes before holds exactly those after.
abbrev pub KeepsFreeInodes : (ℕ → Bool) → Memory → Memory → Set → Set → Type 0
KeepsFreeInodes in_snapshot old new blocks after = (inodes : Set) → AreExact (current_words old) in_snapshot blocks inodes
    → AreExact (current_words new) in_snapshot after inodes

-- A set that holds exactly the free inodes before holds exactly those after, once inode `j` is taken out.
abbrev pub TakesFreeInode : (ℕ → Bool) → Memory → Memory → Set → Set → ℕ → Type 0
TakesFreeInode in_snapshot old new blocks after j = (inodes : Set) → AreExact (current_words old) in_snapshot blocks inodes
    → AreExact (current_words new) in_snapshot after (without inodes j)

-- Sets of free inodes and of free blocks stay exact, with the same blocks free, whichever blocks are those of the
-- snapshot.
abbrev pub KeepsFree : Memory → Memory → Type 0
KeepsFree old new = (in_snapshot : ℕ → Bool) (blocks : Set) → KeepsFreeInodes in_snapshot old new blocks blocks

abbrev pub TakesOnlyInode : Memory → Memory → ℕ → Type 0
TakesOnlyInode old new j = (in_snapshot : ℕ → Bool) (blocks : Set) → TakesFreeInode in_snapshot old new blocks blocks j

-- ---- the same of the parts of a file system

abbrev pub PerformsEntryIn : {R : Type 0} → (R → Memory) → Parts R → Parts R → ℕ → Entrant → (Image → Image → Type 0) → Type 0
PerformsEntryIn memory old new i entrant Effect =
    PerformsEntry (in_snapshot_of old) (memory old.region) (memory new.region) i entrant Effect

abbrev pub KeepsFreeInodesIn : {R : Type 0} → (R → Memory) → Parts R → Parts R → Type 0
KeepsFreeInodesIn memory old new =
    KeepsFreeInodes (in_snapshot_of old) (memory old.region) (memory new.region) old.free_blocks new.free_blocks

abbrev pub TakesFreeInodeIn : {R : Type 0} → (R → Memory) → Parts R → Parts R → ℕ → Type 0
TakesFreeInodeIn memory old new j =
    TakesFreeInode (in_snapshot_of old) (memory old.region) (memory new.region) old.free_blocks new.free_blocks j
