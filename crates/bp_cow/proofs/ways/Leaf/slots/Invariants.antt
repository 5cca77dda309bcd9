use Rattle.std.proofs.Common.{◌≡◌, take}
use Rattle.arrayvec.specs.ArrayVec.{array_vec_len}
use Rattle.bp_cow.specs.Touched.{run_way}
use Rattle.bp_cow.proofs.ways.Leaf.slots.Given as goal

abbrev pub invariant-loop-depth : goal.invariant-loop-depth
invariant-loop-depth l = record {
  path : l.slots.items ≡ take l.depth (run_way l.self.run.now l.self.index);
  len : array_vec_len l.slots ≡ l.depth;
}
