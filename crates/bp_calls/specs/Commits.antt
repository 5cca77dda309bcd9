-- The effect of a call on the parts of a file system: it commits a change, or lacks blocks and changes nothing.
use Rattle.std.specs.Prelude.{◌≡◌, ℕ, IfErr, OnErr, OnOk, Result, length}
use Rattle.bp_calls.specs.Created.{EntersName}
use Rattle.bp_changes.specs.Entrant.{ForCreation}
use Rattle.bp_calls.specs.Space.{LacksBlocks, LacksSpace, LacksSpaceToCreate}
use Rattle.bp_changes.specs.Thawed.{AfterThaw}
use Rattle.bp_changes.specs.Performs.{Performs, PerformsThawed}
use Rattle.bp_free.specs.Set.{members}
use Rattle.bp_free.specs.declared.parts.NoSpace.{NoSpace}
use Rattle.bp_free.specs.declared.parts.Parts.{Parts}
use Rattle.bp_layout.specs.Paths.{Name}
use Rattle.bp_layout.specs.Need.{Change, need}
use Rattle.bp_layout.specs.Words.{Image}
use Rattle.bp_layout.specs.declared.fields.Kind.{Kind}
use Rattle.bp_changes.specs.Sets.{IsExact, in_snapshot_of}
use Rattle.pm_region.specs.Memory.{Memory, current_words}

-- The change is made, and no block was left to thaw before it. The sets and counts of the new parts are exactly those
-- of the new image, and the blocks of the snapshot are the same.
pub record CommitsChange {R : Type 0} (memory : R → Memory) (old new : Parts R) (change : Change)
    (Effect : Image → Image → Type 0) : Type 0 where
  pub performs : PerformsThawed (in_snapshot_of old) (memory old.region) (memory new.region) change Effect
  pub snapshot_blocks : new.snapshot_blocks ≡ old.snapshot_blocks
  pub exact : IsExact (current_words (memory new.region)) new

-- The change is made, with no block left to thaw before it; or fewer blocks are free than it needs, the error holds
-- both numbers, and nothing has changed.
pub record CommitsOrLacksBlocks {R T : Type 0} (memory : R → Memory) (old new : Parts R) (result : Result T NoSpace)
    (change : Change) (Effect : Image → Image → Type 0) : Type 0 where
  pub performs : OnOk result (PerformsThawed (in_snapshot_of old) (memory old.region) (memory new.region) change Effect)
  pub snapshot_blocks : new.snapshot_blocks ≡ old.snapshot_blocks
  pub exact : IsExact (current_words (memory new.region)) new
  pub refused : IfErr result (LacksBlocks (current_words (memory old.region)) (in_snapshot_of old)
      (need (current_words (memory old.region)) change))
  pub free : IfErr result (λ lacks. lacks.free ≡ length (members old.free_blocks))
  pub same : OnErr result (new ≡ old)

-- The effect of a whole call, which first thaws the blocks of the snapshot on the paths to its change. Its need
-- includes those blocks, and its effect is that of the change, after the thaw. If fewer blocks are free than it needs,
-- the error holds both numbers, and nothing has changed.
pub record CommitsOrLacksSpace {R T : Type 0} (memory : R → Memory) (old new : Parts R) (result : Result T NoSpace)
    (change : Change) (Effect : Image → Image → Type 0) : Type 0 where
  pub performs : OnOk result (Performs (in_snapshot_of old) (memory old.region) (memory new.region) change (AfterThaw Effect))
  pub snapshot_blocks : new.snapshot_blocks ≡ old.snapshot_blocks
  pub exact : IsExact (current_words (memory new.region)) new
  pub refused : IfErr result (LacksSpace (current_words (memory old.region)) (in_snapshot_of old) change)
  pub same : OnErr result (new ≡ old)

-- The effect of a whole call that creates a name in directory `i`, with the same two outcomes. Its change is determined
-- by the least free inode; if none is free, the change includes the growth of the inode file.
pub record CreatesOrLacksSpace {R T : Type 0} (memory : R → Memory) (old new : Parts R) (result : Result T NoSpace)
    (i : ℕ) (name : Name) (kind : Kind) : Type 0 where
  pub performs : OnOk result (ForCreation (current_words (memory old.region)) i (λ change.
      Performs (in_snapshot_of old) (memory old.region) (memory new.region) change (AfterThaw (EntersName i name kind))))
  pub snapshot_blocks : new.snapshot_blocks ≡ old.snapshot_blocks
  pub exact : IsExact (current_words (memory new.region)) new
  pub refused : IfErr result (LacksSpaceToCreate (current_words (memory old.region)) (in_snapshot_of old) i)
  pub same : OnErr result (new ≡ old)
