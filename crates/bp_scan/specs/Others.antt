-- Sets computed from other sets, number by number.
use Rattle.std.specs.Prelude.{◌≡◌, ℕ, ◌<◌, ◌≤◌, length, false, not, ◌&&◌}
use Rattle.bp_free.specs.Set.{Set, has}

-- Below `to`, `others` has exactly the numbers from 1 on that `set` lacks, and from `to` on none.
pub record HasOthersBelow (set others : Set) (to : ℕ) : Type 0 where
  pub room : length others ≡ length set
  pub first : has others 0 ≡ false
  pub below : (i : ℕ) → 1 ≤ i → i < to → has others i ≡ not (has set i)
  pub above : (i : ℕ) → to ≤ i → has others i ≡ false

-- `others` has exactly the numbers from 1 on that `set` lacks.
abbrev pub HasOthers : Set → Set → Type 0
HasOthers set others = HasOthersBelow set others (length set)

-- Below `to`, the new set is the old one without the numbers of `lost`, and from `to` on it is the old one.
pub record LosesBelow (lost old new : Set) (to : ℕ) : Type 0 where
  pub room : length new ≡ length old
  pub below : (i : ℕ) → i < to → has new i ≡ (has old i && not (has lost i))
  pub above : (i : ℕ) → to ≤ i → has new i ≡ has old i

-- The new set is the old one without the numbers of `lost`.
abbrev pub Loses : Set → Set → Set → Type 0
Loses lost old new = LosesBelow lost old new (length old)
