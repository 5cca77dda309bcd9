use Rattle.std.proofs.Common.{◌≡◌, ◌+◌, ◌≤◌, drop, length, take}
use Rattle.pm_region.specs.Memory.{stores_from}
use Rattle.pm_raw.specs.Unwound.{base_from, events_from}
use Rattle.pm_raw.proofs.unwind.unwind_stores.Given as goal

-- the stores with the last numbers are unwound
abbrev pub invariant-loop-left : goal.invariant-loop-left
invariant-loop-left l = record {
  low : l.left ≤ length l.fn.saved;
  each : length l.saved ≡ length l.fn.saved;
  words : l.words ≡ base_from l.fn.words (stores_from (l.first + l.left) (drop l.left l.fn.saved));
  rest : take l.left l.saved ≡ take l.left l.fn.saved;
  saved : stores_from (l.first + l.left) (drop l.left l.saved) ≡ events_from l.fn.words (stores_from (l.first + l.left) (drop l.left l.fn.saved));
}

-- fewer stores are left
abbrev pub decreases-loop-left : goal.decreases-loop-left
decreases-loop-left l = l.left
