-- A block that is partly filled.
use Rattle.std.specs.Prelude.{◌≡◌, ◌≤◌, length}
use Rattle.pm_raw.specs.Block.{IsBlock}
use Rattle.pm_raw.specs.Part.{Part}
use Rattle.pm_raw.specs.declared.array.Filling.TheInside.{Inside}

abbrev pub part_of : Inside → Part
part_of filling = record { words = filling.cells.items; size = filling.size }

-- The parts belong to one block, and its first places have an item each.
pub record IsPartly (filling : Inside) : Type 0 where
  pub block : IsBlock filling.base filling.cells filling.deed filling.size filling.alloc
  pub counted : length filling.cells.items ≡ filling.count
  pub fits : filling.count ≤ filling.size
