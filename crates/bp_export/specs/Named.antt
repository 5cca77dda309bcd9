-- Names stored one after the other, each with the inode that it refers to.
use Rattle.std.specs.Prelude.{ℕ, ◌+◌, ◌≤◌, List, All, map, length, take, drop}
use Rattle.bp_limits.specs.CallLimits.{max_name}
use Rattle.bp_layout.specs.Paths.{Name}
use Rattle.bp_export.specs.declared.entries.Row.{Row}

-- The inode of a row, and its name: the bytes of the name that exist.
abbrev pub named_row : List ℕ → Row → ℕ × Name
named_row bytes row = (row.inode, take row.len (drop row.first bytes))

abbrev pub named_rows : List ℕ → List Row → List (ℕ × Name)
named_rows bytes rows = map (named_row bytes) rows

-- All bytes of each name exist, and no name is longer than `max_name`.
abbrev pub AreRowsWithin : List ℕ → List Row → Type 0
AreRowsWithin bytes rows = All (λ row. (row.first + row.len ≤ length bytes) × (row.len ≤ max_name)) rows
