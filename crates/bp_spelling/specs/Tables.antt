-- Tables of names: cells, each empty or with an entry. A name is in the first empty cell from the one of its hash on.
use Rattle.std.specs.Prelude.{◌≡◌, ◌≢◌, ◌⊎◌, ℕ, ◌-◌, ◌%◌, ◌<◌, ◌≤◌, List, length, slice_index_or}
use Rattle.bp_layout.specs.Words.{Image}
use Rattle.bp_spelling.specs.Hashes.{spelled_key}
use Rattle.bp_spelling.specs.Places.{IsDouble}
use Rattle.bp_spelling.specs.declared.entry.Spelled.{Spelled}
use Rattle.bp_spelling.specs.declared.table.Clash.{Clash}
use Rattle.bp_spelling.specs.declared.table.Clash.TheVariants.{Double, Full}
use Rattle.bp_spelling.specs.declared.table.TableError.{TableError}
use Rattle.bp_spelling.specs.declared.table.TableError.TheVariants.{Repeated, Crowded}

-- The first cell that may hold a hash, in a table of `cells` cells.
abbrev pub home : ℕ → ℕ → ℕ
home cells hash = hash % (cells - 128)

-- The entry is that of a cell that is not empty.
abbrev pub IsPresent : Spelled → Type 0
IsPresent entry = entry.number ≢ 0

-- The contents of a cell, with number 0 if it is empty.
abbrev pub cell_at : List Spelled → ℕ → Spelled
cell_at table cell = slice_index_or table cell (record { hash = 0; number = 0 })

-- The entry is in a cell that may hold it, and no cell before that is empty.
pub record IsKept (table : List Spelled) (entry : Spelled) : Type 0 where
  pub cell : ℕ
  pub from : home (length table) entry.hash ≤ cell
  pub there : cell_at table cell ≡ entry
  pub taken : (before : ℕ) → home (length table) entry.hash ≤ before → before < cell → (cell_at table before).number ≢ 0

-- An entry is added: no other one has its name, and each one that was in the table still is.
pub record Puts (image : Image) (old new : List Spelled) (entry : Spelled) : Type 0 where
  pub here : IsKept new entry
  pub keeps : (other : Spelled) → other.number ≢ 0 → IsKept old other → IsKept new other
  pub alone : (other : Spelled) → other.number ≢ 0 → IsKept old other → spelled_key image other ≡ spelled_key image entry
      → ⊥
  pub cells : (cell : ℕ) → (cell_at new cell ≡ cell_at old cell) ⊎ (cell_at new cell ≡ entry)

-- Why an entry is not added: a cell has an entry with the same name, or the table is full and nothing is known.
pub data IsClash (image : Image) (old : List Spelled) (entry : Spelled) : Clash → Type 0 where
  double : (cell : ℕ) → (cell_at old cell).number ≢ 0 → spelled_key image (cell_at old cell) ≡ spelled_key image entry
      → IsClash image old entry Double
  full : IsClash image old entry Full

-- The error of a table: one of the entries at these places has the name of another one, or nothing is known.
pub data IsTableError (image : Image) (places : List ℕ) : TableError → Type 0 where
  repeated : (place : ℕ) → IsDouble image places place → IsTableError image places (Repeated place)
  unreported : IsTableError image places (Crowded)
