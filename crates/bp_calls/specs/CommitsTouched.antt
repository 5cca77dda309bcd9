-- A commit of touched bytes and words below the sizes of files.
use Rattle.std.specs.Prelude.{◌≡◌, ◌<◌, ◌≤◌, IfErr, OnErr, OnOk, Result, length}
use Rattle.bp_cow.specs.CanCommit.{CanCommit}
use Rattle.bp_cow.specs.Commit.{CommitsTouched, HasRoom}
use Rattle.bp_cow.specs.Cover.{copied_count}
use Rattle.bp_cow.specs.declared.touched.Touched.{Touched}
use Rattle.bp_free.specs.Set.{has, members}
use Rattle.bp_free.specs.declared.parts.NoSpace.{NoSpace}
use Rattle.bp_free.specs.declared.parts.Parts.{Parts}
use Rattle.bp_layout.specs.Inode.{size_of}
use Rattle.bp_changes.specs.Sets.{in_snapshot_of}
use Rattle.pm_region.specs.Memory.{Memory, current_words}

-- The commit may be made, with the free blocks of the parts, and below the sizes of the trees.
abbrev pub CanCommitTouched : {R : Type 0} → (R → Memory) → Parts R → Touched → Type 0
CanCommitTouched memory parts touched =
    CanCommit (current_words (memory parts.region)) (size_of (current_words (memory parts.region))) (in_snapshot_of parts) touched
    (has parts.free_blocks)

-- If as many blocks are free as the commit copies, the log has room for it.
abbrev pub HasRoomToCommit : {R : Type 0} → (R → Memory) → Parts R → Touched → Type 0
HasRoomToCommit memory parts touched =
    copied_count (current_words (memory parts.region)) touched ≤ length (members parts.free_blocks)
    → HasRoom (memory parts.region) touched

-- The commit is made; or fewer blocks are free than it copies, the error holds both numbers, and nothing has changed.
-- The inodes, their counts and the blocks of the snapshot are the same in both cases.
pub record CommitsTouchedOrLacks {R T : Type 0} (memory : R → Memory) (old new : Parts R) (result : Result T NoSpace)
    (touched : Touched) : Type 0 where
  pub commits : OnOk result (CommitsTouched (size_of (current_words (memory old.region))) (in_snapshot_of old) touched
      (memory old.region) (memory new.region) old.free_blocks new.free_blocks)
  pub size : length new.free_blocks ≡ length old.free_blocks
  pub inodes : new.free_inodes ≡ old.free_inodes
  pub counts : new.link_counts ≡ old.link_counts
  pub snapshot_blocks : new.snapshot_blocks ≡ old.snapshot_blocks
  pub need : IfErr result (λ lacks. lacks.need ≡ copied_count (current_words (memory old.region)) touched)
  pub free : IfErr result (λ lacks. lacks.free ≡ length (members old.free_blocks))
  pub fewer : IfErr result (λ lacks. lacks.free < lacks.need)
  pub same : OnErr result (new ≡ old)
