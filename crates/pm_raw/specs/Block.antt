-- The parts of a block of memory.
use Rattle.std.specs.Prelude.{◌≡◌, ℕ}
use Rattle.pm_raw.specs.declared.cells.Base.{Base}
use Rattle.pm_raw.specs.declared.cells.Cells.{Cells}
use Rattle.pm_raw.specs.declared.cells.Deed.{Deed}

-- The address, the places and the deed belong to one block of `count` places, from this allocator.
module _ {T A : Type 0} where
  pub record IsBlock (base : Base T) (cells : Cells T) (deed : Deed T A) (count : ℕ) (alloc : A) : Type 0 where
    pub cells_at : cells.at ≡ base.address
    pub cells_count : cells.count ≡ count
    pub deed_at : deed.at ≡ base.address
    pub deed_count : deed.count ≡ count
    pub deed_alloc : deed.alloc ≡ alloc
