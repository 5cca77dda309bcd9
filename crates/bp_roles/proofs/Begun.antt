-- The words at the last drain are those that a crash before the first event leaves.
use Rattle.std.proofs.Common.{[], arith}
use Rattle.pm_epochs.specs.Replay.{PowerCut, IsRight}
use Rattle.pm_region.specs.Memory.{Memory}
use Rattle.pm_region.specs.Safe.{IsSafe}
use Rattle.bp_layout.specs.Whole.{SameFiles}
use Rattle.bp_layout.specs.WellFormed.{IsWellFormed}

pub safe_base : (memory : Memory) → IsSafe SameFiles memory → IsWellFormed memory.base
safe_base memory safe =
    let cut : PowerCut = record { moment = 0; epoch = 0; mask = [] } in
    let right : IsRight memory.events (record { moment = 0; epoch = 0; mask = [] }) = record { moment = omega arith; epoch = omega arith; mask = omega arith } in
    (safe.right.each (record { moment = 0; epoch = 0; mask = [] }) right).first.old_well_formed
