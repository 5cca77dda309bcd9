-- The condition of a commit that copies blocks, and the state after its last store.
use Rattle.std.specs.Prelude.{◌≡◌, ℕ, ◌+◌, ◌*◌, ◌≤◌, length}
use Rattle.pm_region.specs.Memory.{Memory, current_words, room_in}
use Rattle.bp_free.specs.Set.{Set, has, members}
use Rattle.bp_layout.specs.Inode.{size_of}
use Rattle.bp_layout.specs.Reached.{IsReached}
use Rattle.bp_layout.specs.WellFormed.{IsWellFormed}
use Rattle.bp_changes.specs.Forest.{IsTreePointer}
use Rattle.bp_cow.specs.Adds.{AddsCopyCommit}
use Rattle.bp_cow.specs.Counting.{IsTreeWord}
use Rattle.bp_cow.specs.Job.{ways, copies, value_upto, laid_on, IsRenewed}
use Rattle.bp_cow.specs.Plan.{Plan, planned, CanMake}
use Rattle.bp_cow.specs.Stage.{IsStage}
use Rattle.bp_cow.specs.Touched.{job_of}
use Rattle.bp_cow.specs.declared.touched.Touched.{Touched}

-- The copies of the plan can be made and committed: `place` is the place of the cover's word, enough blocks are free,
-- and the log has enough room.
pub record CanTurn (plan : Plan) (touched : Touched) (from place : ℕ) (blocks : Set) (memory : Memory) : Type 0 where
  pub can : CanMake (planned plan touched) from
  pub old : plan.old ≡ current_words memory
  pub free : plan.free ≡ has blocks
  pub at : place ≡ plan.place
  pub well : IsWellFormed plan.old
  pub sizes : (t : ℕ) → IsReached plan.old t → size_of plan.old t ≤ plan.bound t
  pub some : copies (job_of touched) from ≤ length (members blocks)
  pub room : 513 * copies (job_of touched) from + (job_of touched).words + 3 ≤ room_in memory

-- All copies are made as planned, and the last store is done. `left` are the free blocks then, without the old blocks
-- that were copied.
pub record HasTurned (plan : Plan) (touched : Touched) (from place : ℕ) (blocks left : Set)
    (old new : Memory) : Type 0 where
  pub count : length (members blocks) ≡ length (members left) + copies (job_of touched) from
  pub size : length left ≡ length blocks
  pub commit : AddsCopyCommit (has blocks) (has left) place (513 * copies (job_of touched) from
      + (job_of touched).words) old new
  pub stage : IsStage plan.old (current_words new) (IsTreePointer plan.old plan.bound) (IsTreeWord plan.old plan.bound)
      (IsRenewed (job_of touched) from (ways (job_of touched)) from)
      (value_upto (job_of touched) (job_of touched).words) (laid_on plan.old (job_of touched)) plan.in_snapshot
      (has left)
