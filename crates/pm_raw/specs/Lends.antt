-- The value that the places have after a `&mut` to their items has ended.
use Rattle.std.specs.Prelude.{List, length}
use Rattle.std.specs.Borrow.{Fml, RattleType, MutBor, Array, Lends}
use Rattle.std.specs.List.{refill}
use Rattle.pm_raw.specs.declared.cells.Cells.{Cells}
use Rattle.pm_raw.specs.contracts.cells.Cells.{the_row}

-- The places with these items in place of their own, of which there are as many.
abbrev pub refilled : {T : Type 0} → Cells T → List T → Cells T
refilled cells items = record cells { items = refill (length cells.items) cells.items items }

abbrev pub lends_items : (R : RattleType) → MutBor (Cells R.Denot) → MutBor (List R.Denot) → Fml
lends_items R cells r = Lends (the_row R) (Array R 0) cells r (refilled cells.now)
