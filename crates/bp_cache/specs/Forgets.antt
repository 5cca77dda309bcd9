-- The remembered names after one is forgotten.
use Rattle.std.specs.Prelude.{◌≡◌, ℕ, None, Some}
use Rattle.std.specs.FinMap.{get}
use Rattle.bp_layout.specs.Hints.{NameIn, Known}

-- the name is not remembered any more, and no new name is
pub record Forgets (before after : Known) (name : NameIn) : Type 0 where
  pub gone : get after name ≡ None
  pub others : (other : NameIn) (slot : ℕ) → get after other ≡ Some slot → get before other ≡ Some slot
