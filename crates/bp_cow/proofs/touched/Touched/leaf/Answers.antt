use Rattle.std.proofs.Common.{◌-◌, subst, arith}
use Rattle.bp_cow.specs.declared.touched.Run.{Run}
use Rattle.bp_cow.specs.Leaves.{IsLeaf}
use Rattle.bp_cow.specs.Touched.{word_paths}
use Rattle.bp_cow.proofs.RunsLaws.{leaf-at, leaves-take}
use Rattle.bp_cow.proofs.touched.Touched.leaf.Goals as goal

pub returns-clause-leaf : goal.returns-clause-leaf
returns-clause-leaf c =
    let runs = c.args.self.now.runs.now in
    let k = c.run_of-number.result in
    let first = c.leaves_before-first.result in
    let run = c.index-self-number.result in
    let next = leaves-take runs k run c.run_of-number.ensures.low c.index-self-number.is in
    subst (λ (r : Run). IsLeaf runs runs (word_paths c.args.self.now) c.args.i r (c.args.i - first)) c.index-self-number.is
    (leaf-at runs runs (word_paths c.args.self.now) k c.args.i first run c.run_of-number.ensures.low c.index-self-number.is c.leaves_before-first.ensures
    (omega (arith, c.leaves_before-first.ensures, c.run_of-number.ensures.past)) (omega (arith, c.leaves_before-first.ensures, c.run_of-number.ensures.here, next)))
