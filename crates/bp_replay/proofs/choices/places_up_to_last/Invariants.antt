use Rattle.std.proofs.Common.{◌≡◌, ◌≤◌, length, take}
use Rattle.bp_replay.specs.Wanted.{bits, trimmed}
use Rattle.bp_replay.proofs.choices.places_up_to_last.Given as goal

abbrev pub invariant-loop-place : goal.invariant-loop-place
invariant-loop-place l = record {
  few : l.places ≤ l.place;
  so_far : l.places ≡ length (trimmed (take l.place (bits l.mask)));
}
