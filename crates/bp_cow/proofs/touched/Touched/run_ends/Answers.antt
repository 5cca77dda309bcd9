use Rattle.std.proofs.Common.{◌≡◌, ℕ, ◌+◌, List, [], ◌∷◌, length, take, sym, ◌∙◌, ap, subst, arith}
use Rattle.std.specs.List.{slice_index}
use Rattle.std.proofs.lemmas.List.{length-append, take_all}
use Rattle.bp_cow.specs.Touched.{leaves_of}
use Rattle.bp_cow.proofs.RunsLaws.{ends-next, has-item, leaves-few, leaves-part, leaves-take}
use Rattle.bp_cow.proofs.touched.Touched.run_ends.Goals as goal

pub leaves-leaves-requires : goal.leaves-leaves-requires
leaves-leaves-requires c = c.requires.runs c.run-item.result (has-item c.args.self.now.runs.now c.loop-run.run-index c.run-item.result c.loop-run-test.true c.run-item.is)

pub overflow_add-leaves : goal.overflow_add-leaves
overflow_add-leaves c =
    let runs = c.args.self.now.runs.now in
    let next = leaves-take runs c.loop-run.run-index c.run-item.result c.loop-run-test.true c.run-item.is in
    omega (arith, c.loop-run.invariant.leaves, c.leaves-leaves.ensures, next, leaves-part runs (c.loop-run.run-index + 1), leaves-few runs c.requires.runs, c.requires.few_runs)

pub overflow_cast-leaves : goal.overflow_cast-leaves
overflow_cast-leaves c =
    let runs = c.args.self.now.runs.now in
    let next = leaves-take runs c.loop-run.run-index c.run-item.result c.loop-run-test.true c.run-item.is in
    omega (arith, c.loop-run.invariant.leaves, c.leaves-leaves.ensures, next, leaves-part runs (c.loop-run.run-index + 1), leaves-few runs c.requires.runs, c.requires.few_runs)

pub loop-run-preserved : goal.loop-run-preserved
loop-run-preserved c =
    let runs = c.args.self.now.runs.now in
    let ends = c.loop-run.inner.items in
    let leaves = c.loop-run.leaves + c.leaves-leaves.result in
    let is : leaves ≡ leaves_of (take (c.loop-run.run-index + 1) runs) = omega (arith, c.loop-run.invariant.leaves, c.leaves-leaves.ensures, leaves-take runs c.loop-run.run-index c.run-item.result c.loop-run-test.true c.run-item.is) in
    record {
      each = ap (λ (items : List ℕ). length items) c.push.ensures.items ∙ omega (arith, c.loop-run.invariant.each, length-append ends (leaves ∷ []));
      len = omega (arith, c.push.ensures.len, c.loop-run.invariant.len);
      right = λ k low. subst (λ (items : List ℕ). slice_index items k ≡ leaves_of (take (k + 1) runs)) (sym c.push.ensures.items)
          (ends-next runs ends leaves c.loop-run.run-index c.loop-run.invariant.each c.loop-run.invariant.right is k low);
      leaves = is;
    }

pub returns : goal.returns
returns c =
    let runs = c.args.self.now.runs.now in
    let end : c.loop-run.run-index ≡ length runs = omega arith in
    record {
      leaves = c.loop-run.invariant.leaves ∙ ap leaves_of (take_all c.loop-run.run-index runs (omega (arith, end)));
      each = omega (arith, c.loop-run.invariant.each, end);
      right = λ k low. c.loop-run.invariant.right k (omega (arith, low, c.loop-run.invariant.each));
    }
