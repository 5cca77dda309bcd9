use Rattle.std.proofs.Common.{◌≡◌, ℕ, ◌+◌, ◌-◌, ◌<◌, ◌≤◌, List, [], ◌∷◌, length, sym, ◌∙◌, ap, subst, arith}
use Rattle.std.specs.Prelude.{IfSome}
use Rattle.std.proofs.lemmas.List.{length-append}
use Rattle.bp_cow.specs.Job.{ways}
use Rattle.bp_cow.specs.Leaves.{IsLeaf}
use Rattle.bp_cow.specs.Touched.{job_of, word_paths}
use Rattle.bp_cow.specs.Ways.{AreFresh}
use Rattle.bp_cow.proofs.RunsLaws.{way-short}
use Rattle.bp_cow.proofs.SharedLaws.{IsFresh, fresh-rest, listed-next, shared-few}
use Rattle.bp_cow.proofs.touched.Touched.first_fresh.Goals as goal

pub shared_before-shared-requires-clause-before : goal.shared_before-shared-requires-clause-before
shared_before-shared-requires-clause-before c = c.loop-i.invariant.before

pub overflow_add-own : goal.overflow_add-own
overflow_add-own c =
    let here : c.loop-i.i < ways (job_of c.args.self.now) = omega (arith, c.loop-i-test.true, c.min-end.ensures, c.ways.ensures) in
    omega (arith, c.len_of-len.ensures, way-short c.args.self.now c.requires.touched c.loop-i.i here)

pub overflow_sub-own : goal.overflow_sub-own
overflow_sub-own c = omega (arith, c.len_of-len.ensures, shared-few c.args.self.now c.loop-i.i c.shared_before-shared.result c.shared_before-shared.ensures)

pub overflow_cast-own : goal.overflow_cast-own
overflow_cast-own c =
    let here : c.loop-i.i < ways (job_of c.args.self.now) = omega (arith, c.loop-i-test.true, c.min-end.ensures, c.ways.ensures) in
    omega (arith, c.len_of-len.ensures, way-short c.args.self.now c.requires.touched c.loop-i.i here)

pub loop-i-preserved : goal.loop-i-preserved
loop-i-preserved c =
    let touched = c.args.self.now in
    let before = c.loop-i.fresh.items in
    let own : ℕ = c.len_of-len.result + 1 - c.shared_before-shared.result in
    let few : c.shared_before-shared.result ≤ c.len_of-len.result + 1 = omega (arith, c.len_of-len.ensures, shared-few touched c.loop-i.i c.shared_before-shared.result c.shared_before-shared.ensures) in
    let is : IsFresh touched c.loop-i.i own = fresh-rest touched c.loop-i.i c.len_of-len.result c.shared_before-shared.result c.len_of-len.ensures few c.shared_before-shared.ensures in
    record {
      right = subst (AreFresh touched) (sym c.push.ensures.items) (listed-next touched before own c.loop-i.invariant.right (subst (λ k. IsFresh touched k own) (sym c.loop-i.invariant.items) is));
      items = ap (λ (items : List ℕ). length items) c.push.ensures.items ∙ omega (arith, c.loop-i.invariant.items, length-append before (own ∷ []));
      len = omega (arith, c.push.ensures.len, c.loop-i.invariant.len);
      before =
          let runs = touched.runs.now in
          let back : c.loop-i.i ≡ c.loop-i.i + 1 - 1 = omega arith in
          subst (λ n. IfSome c.leaf-leaf.result (λ leaf. IsLeaf runs runs (word_paths touched) n leaf.run.now leaf.index)) back c.leaf-leaf.ensures.leaf;
    }
