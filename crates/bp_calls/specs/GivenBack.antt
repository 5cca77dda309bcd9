-- Blocks that return to the set of free blocks.
use Rattle.std.specs.Prelude.{◌≡◌, ◌⊎◌, ℕ, length, Bool, true, false}
use Rattle.bp_free.specs.Set.{Set, has}

-- The new set has the members of the old one and the blocks that are gone and not kept, and no others.
pub record GivesBack (in_snapshot : ℕ → Bool) (Gone : ℕ → Type 0) (old new : Set) : Type 0 where
  pub room : length new ≡ length old
  pub given : (b : ℕ) → Gone b → in_snapshot b ≡ false → has new b ≡ true
  pub still : (b : ℕ) → has old b ≡ true → has new b ≡ true
  pub only : (b : ℕ) → has new b ≡ true → (has old b ≡ true) ⊎ (Gone b × (in_snapshot b ≡ false))
