use Rattle.std.proofs.Common.{◌≡◌, ◌≤◌, ◌+◌, drop}
use Rattle.pm_raw.specs.Places.{count_below}
use Rattle.pm_raw.proofs.places.count_of.Given as goal

abbrev pub invariant-loop-place : goal.invariant-loop-place
invariant-loop-place l = record {
  few : l.count ≤ l.place-index;
  so_far : l.count + count_below l.bound (drop l.place-index l.places) ≡ count_below l.bound l.places;
}
