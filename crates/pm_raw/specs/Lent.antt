-- Memory that is lent, and the block that it is.
use Rattle.std.specs.Prelude.{◌≡◌, ℕ, List, length, Option, Some, None}
use Rattle.pm_raw.specs.declared.cells.Base.{Base}
use Rattle.pm_raw.specs.declared.cells.Cells.{Cells}

-- `count` places at an address, each with an item.
module _ {T : Type 0} where
  pub record IsFull (base : Base T) (count : ℕ) (cells : Cells T) : Type 0 where
    pub placed : cells.at ≡ base.address
    pub many : cells.count ≡ count
    pub filled : length cells.items ≡ count

-- The block holds the lent words, or there are none.
abbrev pub IsUnsealed : Option (List ℕ) → Option (Base ℕ × ℕ × Cells ℕ) → Type 0
IsUnsealed words None = words ≡ None
IsUnsealed words (Some block) = (words ≡ Some block.2.items) × IsFull block.0 block.1 block.2
