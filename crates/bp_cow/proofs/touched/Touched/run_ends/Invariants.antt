use Rattle.std.proofs.Common.{◌≡◌, ℕ, ◌+◌, ◌<◌, length, take}
use Rattle.std.specs.List.{slice_index}
use Rattle.arrayvec.specs.ArrayVec.{array_vec_len}
use Rattle.bp_cow.specs.Touched.{leaves_of}
use Rattle.bp_cow.proofs.touched.Touched.run_ends.Given as goal

abbrev pub invariant-loop-run : goal.invariant-loop-run
invariant-loop-run l = record {
  each : length l.inner.items ≡ l.run-index;
  len : array_vec_len l.inner ≡ l.run-index;
  right : (k : ℕ) → k < l.run-index → slice_index l.inner.items k ≡ leaves_of (take (k + 1) l.self.runs.now);
  leaves : l.leaves ≡ leaves_of (take l.run-index l.self.runs.now);
}
