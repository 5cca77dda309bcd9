-- A commit: its conditions and its effect.
use Rattle.std.specs.Prelude.{◌≡◌, ℕ, ◌+◌, ◌*◌, ◌/◌, ◌≤◌, List, length, Bool, true, false}
use Rattle.pm_region.specs.Memory.{Memory, current_words, room_in}
use Rattle.pm_region.specs.Safe.{AddsCommit}
use Rattle.bp_limits.specs.Limits.{block_words}
use Rattle.bp_free.specs.Set.{Set, has, members}
use Rattle.bp_free.specs.declared.parts.Parts.{Parts}
use Rattle.bp_layout.specs.Free.{AreUnheld}
use Rattle.bp_layout.specs.Members.{Each}
use Rattle.bp_layout.specs.Reached.{IsReached}
use Rattle.bp_layout.specs.Same.{Same}
use Rattle.bp_layout.specs.WellFormed.{IsWellFormed}
use Rattle.bp_layout.specs.WordPaths.{address}
use Rattle.bp_layout.specs.Words.{Image, block_count}
use Rattle.bp_changes.specs.Forest.{IsForest, IsTreePointer}
use Rattle.bp_changes.specs.Sets.{in_snapshot_of}
use Rattle.bp_changes.specs.Performs.{TakesBlocks}
use Rattle.bp_cow.specs.CanCommit.{CanCommit}
use Rattle.bp_cow.specs.Committed.{IsCommitted, after_commit}
use Rattle.bp_cow.specs.Counting.{IsTreeWord}
use Rattle.bp_cow.specs.Cover.{commit_cover, copied_count}
use Rattle.bp_cow.specs.Job.{IsTurned}
use Rattle.bp_cow.specs.Touched.{job_of}
use Rattle.bp_cow.specs.declared.touched.Touched.{Touched}

-- the greatest number of stores of a commit: the words of each copy and the pointer to it, the touched words, and the
-- last store
abbrev pub commit_stores : Image → Touched → ℕ
commit_stores image touched = (block_words + 1) * copied_count image touched + length touched.words.now + 1

-- at least as many blocks are free as the commit copies; `HasRoom`: the log has room for its stores and for the two
-- barriers around the last one
abbrev pub HasBlocks : Memory → Touched → Set → Type 0
HasBlocks memory touched blocks = copied_count (current_words memory) touched ≤ length (members blocks)

abbrev pub HasRoom : Memory → Touched → Type 0
HasRoom memory touched = commit_stores (current_words memory) touched + 2 ≤ room_in memory

-- the place of the cover's word
abbrev pub cover_word : Image → Touched → ℕ
cover_word image touched = address image (commit_cover image touched)

-- the block of the cover's word is not in the snapshot, unless it is the superblock
abbrev pub HasLooseCover : Image → (ℕ → Bool) → Touched → Type 0
HasLooseCover image in_snapshot touched =
    block_words ≤ cover_word image touched → in_snapshot (cover_word image touched / block_words) ≡ false

-- The full condition of a commit, on the memory and on the set of free blocks. Blocks of the snapshot are not free, and
-- the one store in place goes to none of them.
pub record CanCommitIn (bound : ℕ → ℕ) (in_snapshot : ℕ → Bool) (memory : Memory) (touched : Touched) (blocks : Set)
    : Type 0 where
  pub well_formed : IsWellFormed (current_words memory)
  pub can : CanCommit (current_words memory) bound in_snapshot touched (has blocks)
  pub loose : HasLooseCover (current_words memory) in_snapshot touched
  pub fits : block_count (current_words memory) ≤ length blocks
  pub some : HasBlocks memory touched blocks
  pub room : HasRoom memory touched

-- the effect of a commit on the words, if its cover has this many slots
abbrev pub IsCommittedBy : (ℕ → ℕ) → Touched → ℕ → Image → Image → Type 0
IsCommittedBy bound touched cover old new =
    IsCommitted old new (IsTreePointer old bound) (IsTreeWord old bound) (IsTurned (job_of touched) cover)
    (after_commit old (job_of touched))

-- the statement `Holds` follows if the trees of the old image are sound and the commit made the new image
abbrev pub OnCommit : (ℕ → ℕ) → Touched → ℕ → Image → Image → Type 0 → Type 0
OnCommit bound touched cover old new Holds = IsForest old bound → IsCommittedBy bound touched cover old new → Holds

-- The effect of a commit. One store at the word of the cover, alone in its epoch after a quiet preparation, gives each
-- touched word its value. The stores before it go to the blocks taken for copies, at least one to each, and nowhere
-- else. No store goes to a block of the snapshot.
--
-- Afterwards a block is free exactly if it is not in the snapshot and no tree has it in the new image, of the inodes
-- that were reached in the old one. So the blocks that were copied are free, unless they are in the snapshot.
pub record CommitsTouched (bound : ℕ → ℕ) (in_snapshot : ℕ → Bool) (touched : Touched) (old new : Memory)
    (blocks blocks_after : Set) : Type 0 where
  pub value : ℕ
  pub commit : AddsCommit Same (cover_word (current_words old) touched) value 2
      (commit_stores (current_words old) touched) old new
  pub taken : List ℕ
  pub takes : TakesBlocks (current_words old) in_snapshot taken commit.prepared
  pub number : length taken ≡ copied_count (current_words old) touched
  -- the taken blocks were in the set of free blocks
  pub from : Each (λ b. has blocks b ≡ true) taken
  -- the pointers above the cover's word do not change
  pub stays : address (current_words new) (commit_cover (current_words old) touched)
      ≡ cover_word (current_words old) touched
  pub loose : HasLooseCover (current_words old) in_snapshot touched
  pub words : IsCommittedBy bound touched (length (commit_cover (current_words old) touched)) (current_words old)
      (current_words new)
  pub exact : AreUnheld (current_words new) (IsReached (current_words old)) bound in_snapshot (has blocks_after)

-- the effect of a commit on the parts of a file system; the function gives the memory of a region
abbrev pub CommitsParts : {R : Type 0} → (R → Memory) → (ℕ → ℕ) → Touched → Parts R → Parts R → Type 0
CommitsParts memory bound touched old new =
    CommitsTouched bound (in_snapshot_of old) touched (memory old.region) (memory new.region) old.free_blocks new.free_blocks
