-- A region with the value of each event of its log next to it.
use Rattle.std.specs.Prelude.{◌≡◌, ◌≤◌, length, map, vec_capacity}
use Rattle.pm_epochs.specs.Kind.{event_value}
use Rattle.pm_region.specs.Memory.{Memory}
use Rattle.pm_runs.specs.declared.redo.RedoRegion.TheInside.{Inside}

abbrev pub redo_memory : Inside → Memory
redo_memory redo = redo.region

-- The values are those of the log's events, the log is within its capacity, and there is memory for as many values.
pub record HasValues (redo : Inside) : Type 0 where
  pub values : redo.values.items ≡ map event_value redo.region.events
  pub fits : length redo.region.events ≤ redo.region.capacity
  pub reserved : redo.region.capacity ≤ vec_capacity redo.values
