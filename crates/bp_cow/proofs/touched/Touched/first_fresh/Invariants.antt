use Rattle.std.proofs.Common.{◌≡◌, ◌-◌, length}
use Rattle.std.specs.Prelude.{IfSome}
use Rattle.arrayvec.specs.ArrayVec.{array_vec_len}
use Rattle.bp_cow.specs.Leaves.{IsLeaf}
use Rattle.bp_cow.specs.Touched.{word_paths}
use Rattle.bp_cow.specs.Ways.{AreFresh}
use Rattle.bp_cow.proofs.touched.Touched.first_fresh.Given as goal

abbrev pub invariant-loop-i : goal.invariant-loop-i
invariant-loop-i l = record {
  right : AreFresh l.self l.fresh.items;
  items : length l.fresh.items ≡ l.i;
  len : array_vec_len l.fresh ≡ l.i;
  before : IfSome l.before (λ leaf. IsLeaf l.self.runs.now l.self.runs.now (word_paths l.self) (l.i - 1) leaf.run.now leaf.index);
}
