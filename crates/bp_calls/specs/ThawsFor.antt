-- The thaw of a call before its change: copy-on-write for the snapshot.
use Rattle.std.specs.Prelude.{◌≡◌, ◌+◌, ◌≤◌, ℕ, List, length}
use Rattle.bp_calls.specs.Space.{LacksBlocks}
use Rattle.bp_free.specs.Set.{members}
use Rattle.bp_free.specs.declared.parts.NoSpace.{NoSpace}
use Rattle.bp_free.specs.declared.parts.Parts.{Parts}
use Rattle.bp_layout.specs.Need.{Change}
use Rattle.bp_layout.specs.Thaw.{targets, thawed_on}
use Rattle.bp_layout.specs.WordPaths.{WordPath}
use Rattle.bp_changes.specs.Performs.{room_for}
use Rattle.bp_changes.specs.Sets.{IsExact, in_snapshot_of}
use Rattle.bp_thaw.specs.Thaws.{Thaws}
use Rattle.pm_region.specs.Memory.{Memory, current_words, room_in}

-- The number of blocks that are thawed on these paths.
abbrev pub thaw_count : {R : Type 0} → (R → Memory) → List WordPath → Parts R → ℕ
thaw_count memory paths parts = length (thawed_on (current_words (memory parts.region)) (in_snapshot_of parts) paths)

-- If as many blocks are free as the thaw and `more`, the log has room for a call that takes them all.
abbrev pub HasRoomToThaw : {R : Type 0} → (R → Memory) → List WordPath → Parts R → ℕ → Type 0
HasRoomToThaw memory paths parts more = thaw_count memory paths parts + more ≤ length (members parts.free_blocks)
    → room_for (thaw_count memory paths parts + more) ≤ room_in (memory parts.region)

-- Fewer blocks are free than the thaw and `more`, and the error holds both numbers.
abbrev pub LacksBlocksToThaw : {R : Type 0} → (R → Memory) → List WordPath → Parts R → ℕ → NoSpace → Type 0
LacksBlocksToThaw memory paths parts more lacks =
    LacksBlocks (current_words (memory parts.region)) (in_snapshot_of parts) (thaw_count memory paths parts + more) lacks

-- The blocks of the snapshot on the paths are thawed. The sets and counts of the parts are still exactly those of the
-- image, and the blocks of the snapshot are the same.
pub record ThawsFor {R : Type 0} (memory : R → Memory) (paths : List WordPath) (old new : Parts R) : Type 0 where
  pub thaws : Thaws (in_snapshot_of old) paths (memory old.region) (memory new.region) old.free_blocks new.free_blocks
  pub exact : IsExact (current_words (memory new.region)) new
  pub snapshot_blocks : new.snapshot_blocks ≡ old.snapshot_blocks

-- `ThawsFor` on the paths to the words near which a change stores.
abbrev pub ThawsBefore : {R : Type 0} → (R → Memory) → Parts R → Parts R → Change → Type 0
ThawsBefore memory old new change = ThawsFor memory (targets (current_words (memory old.region)) change) old new
