-- The effect of a pointer on a set of blocks, given the number of the block to which it points (0 for a null pointer).
use Rattle.std.specs.Prelude.{◌≡◌, ◌≢◌, ℕ, ◌<◌, ◌≤◌, length, Bool, true, false}
use Rattle.bp_free.specs.Set.{Set, has, without}
use Rattle.bp_layout.specs.declared.check.Check.{Check}
use Rattle.bp_layout.specs.declared.check.Check.TheVariants.{BlockTwice, Hole, Range}

-- The block is taken out of the set; or the pointer is null and may be, and the set stays the same.
pub record ClaimsPointed (block : ℕ) (holes : Bool) (old new : Set) : Type 0 where
  pub in_range : block < length old
  pub null : block ≡ 0 → (holes ≡ true) × (new ≡ old)
  pub present : block ≢ 0 → (has old block ≡ true) × (new ≡ without old block)

-- The check that fails at a pointer: its block is out of the set's range, or it is null and may not be, or its block
-- is not in the set any more.
pub data RefusesPointed (block : ℕ) (holes : Bool) (old : Set) : Check → Type 0 where
  too_high : length old ≤ block → RefusesPointed block holes old Range
  is_null : block ≡ 0 → holes ≡ false → RefusesPointed block holes old Hole
  has_left : block ≢ 0 → block < length old → has old block ≡ false → RefusesPointed block holes old BlockTwice
