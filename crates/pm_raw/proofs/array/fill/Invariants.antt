use Rattle.std.proofs.Common.{◌≡◌, replicate}
use Rattle.pm_raw.proofs.array.fill.Given as goal

abbrev pub invariant-loop-i : goal.invariant-loop-i
invariant-loop-i g l = record {
  at : l.cells.at ≡ l.fn.cells.at;
  items : l.cells.items ≡ replicate l.i l.value;
  count : l.cells.count ≡ l.fn.cells.count;
}
