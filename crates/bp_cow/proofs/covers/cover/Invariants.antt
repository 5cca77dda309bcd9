use Rattle.std.proofs.Common.{◌≡◌, take}
use Rattle.arrayvec.specs.ArrayVec.{array_vec_len}
use Rattle.bp_cow.specs.Cover.{end_path}
use Rattle.bp_cow.proofs.covers.cover.Given as goal

abbrev pub invariant-loop-depth : goal.invariant-loop-depth
invariant-loop-depth g l = record {
  path : l.path.items ≡ take l.depth (end_path l.touched 0);
  len : array_vec_len l.path ≡ l.depth;
}
