use Rattle.std.proofs.Common.{◌≡◌, ◌-◌, ◌^◌, ◌<◌, drop, take}
use Rattle.bp_layout.specs.Need.{path_number}
use Rattle.bp_thaw.proofs.ways.number.Given as goal

abbrev pub invariant-loop-i : goal.invariant-loop-i
invariant-loop-i l = record {
  value : l.number ≡ path_number (drop l.from (take l.i l.way.items));
  below : l.number < 512 ^ (l.i - l.from);
}
