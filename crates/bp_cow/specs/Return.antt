-- Freeing of the blocks that a commit replaced.
use Rattle.std.specs.Prelude.{◌≡◌, ◌≢◌, ◌⊎◌, ℕ, ◌<◌, ◌≤◌, length, Bool, true, false}
use Rattle.bp_free.specs.Set.{Set, has}
use Rattle.bp_limits.specs.Limits.{block_words}
use Rattle.bp_layout.specs.Words.{Image, block_count, slot_word}
use Rattle.bp_changes.specs.Trail.{Trail, block_on, LeadsTo}
use Rattle.bp_changes.specs.Forest.{IsTreePointer}
use Rattle.bp_cow.specs.Job.{IsRenewed}
use Rattle.bp_cow.specs.Plan.{Plan, CanMake, IsOnWay}

-- a block that was replaced by a copy and is not in the snapshot: a pointer that was set to a copy led to it before
abbrev pub IsGiven : Image → (Trail → Type 0) → (Trail → Type 0) → (ℕ → Bool) → ℕ → Type 0
IsGiven old Pointer renewed in_snapshot b =
    (p : Trail) × Pointer p × renewed p × (block_on old p ≡ b) × (b ≢ 0) × (in_snapshot b ≡ false)

-- the free set has grown by the replaced blocks that are not in the snapshot
pub record IsReturned (old : Image) (Pointer renewed : Trail → Type 0) (in_snapshot before after : ℕ → Bool) : Type 0 where
  pub given : (p : Trail) → Pointer p → renewed p → block_on old p ≢ 0 → in_snapshot (block_on old p) ≡ false
      → after (block_on old p) ≡ true
  pub still : (b : ℕ) → before b ≡ true → after b ≡ true
  pub from : (b : ℕ) → after b ≡ true → (before b ≡ true) ⊎ IsGiven old Pointer renewed in_snapshot b

-- the words after the commit: the old blocks from the cover down still have their words, and none of them is free
pub record IsLeft (plan : Plan) (from : ℕ) (before : ℕ → Bool) (now : Image) : Type 0 where
  pub can : CanMake plan from
  pub whole : length now ≡ length plan.old
  pub intact : (p : Trail) (slot : ℕ) → IsTreePointer plan.old plan.bound p → from ≤ length p → slot < block_words
      → slot_word now (block_on plan.old p) slot ≡ slot_word plan.old (block_on plan.old p) slot
  pub used : (b : ℕ) → LeadsTo plan.old (IsTreePointer plan.old plan.bound) b → before b ≡ false

abbrev pub IsBack : Plan → ℕ → ℕ → ℕ → (ℕ → Bool) → (ℕ → Bool) → Type 0
IsBack plan from i depth before after =
    IsReturned plan.old (IsTreePointer plan.old plan.bound) (IsRenewed plan.job from i depth) plan.in_snapshot before after

-- the old blocks on a way can be freed from a depth on, after those that are free already
pub record CanGive (plan : Plan) (from i depth : ℕ) (blocks : Set) (now : Image) : Type 0 where
  pub left : IsLeft plan from plan.free_after now
  pub way : IsOnWay plan from i depth
  pub back : IsBack plan from i depth plan.free_after (has blocks)
  pub fits : block_count plan.old ≤ length blocks
