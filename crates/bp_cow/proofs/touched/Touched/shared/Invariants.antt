use Rattle.std.proofs.Common.{ℕ, ◌⊎◌, ◌+◌, ◌<◌, ◌≤◌, drop}
use Rattle.std.specs.Prelude.{◌↔◌, length}
use Rattle.bp_cow.specs.Touched.{leaves_of, way_of, word_paths}
use Rattle.bp_cow.specs.Ways.{IsShared}
use Rattle.bp_cow.proofs.touched.Touched.shared.Given as goal

-- what the ways share that were looked at, and those that are left
abbrev pub invariant-loop-run : goal.invariant-loop-run
invariant-loop-run l =
    let runs = l.self.runs.now in
    let paths = word_paths l.self in
    record {
      all : (d : ℕ) → ((d < l.shared) ⊎ IsShared (way_of (drop l.run-index runs) paths) l.rest l.slots.items d) ↔ IsShared (way_of runs paths) l.count l.slots.items d;
      few : l.rest ≤ leaves_of (drop l.run-index runs) + length l.self.words.now;
    }
