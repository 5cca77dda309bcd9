-- The model of an array over raw memory, and the invariant of its parts.
use Rattle.std.specs.Prelude.{List, IfSome}
use Rattle.pm_raw.specs.Block.{IsBlock}
use Rattle.pm_raw.specs.Lent.{IsFull}
use Rattle.pm_raw.specs.declared.array.RawArray.TheInside.{Inside}

module _ {T : Type 0} where
  abbrev pub items_of : Inside T → List T
  items_of array = array.cells.items

  -- The parts belong to one block, and each place has an item. Lent memory has no deed.
  pub record IsWhole (array : Inside T) : Type 0 where
    pub full : IsFull array.base array.len array.cells
    pub block : IfSome array.deed (λ deed. IsBlock array.base array.cells deed array.len array.alloc)
