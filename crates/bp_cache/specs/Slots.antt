-- A set of slots into which one slot is put, or from which one is taken out.
use Rattle.std.specs.Prelude.{◌≡◌, ◌≢◌, ℕ, Bool, length}
use Rattle.bp_free.specs.Set.{Set, has}

-- The slot is in the set exactly if `is_in`, and the others are as before.
pub record SetsSlot (old new : Set) (slot : ℕ) (is_in : Bool) : Type 0 where
  pub room : length new ≡ length old
  pub here : has new slot ≡ is_in
  pub others : (other : ℕ) → other ≢ slot → has new other ≡ has old other
