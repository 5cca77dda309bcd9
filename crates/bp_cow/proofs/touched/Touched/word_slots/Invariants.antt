use Rattle.std.proofs.Common.{◌≡◌, take}
use Rattle.arrayvec.specs.ArrayVec.{array_vec_len}
use Rattle.bp_cow.specs.Touched.{above, path_of, word_paths}
use Rattle.bp_cow.proofs.touched.Touched.word_slots.Given as goal

abbrev pub invariant-loop-depth : goal.invariant-loop-depth
invariant-loop-depth l = record {
  path : l.slots.items ≡ take l.depth (above (path_of (word_paths l.self) l.i));
  len : array_vec_len l.slots ≡ l.depth;
}
