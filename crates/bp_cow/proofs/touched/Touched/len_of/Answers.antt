use Rattle.std.proofs.Common.{◌≡◌, ℕ, ◌-◌, List, length, sym, ◌∙◌, ap, subst, arith}
use Rattle.std.specs.Prelude.{IfSome, Option}
use Rattle.bp_cow.specs.declared.ways.Leaf.{Leaf}
use Rattle.bp_cow.specs.Leaves.{IsLeaf}
use Rattle.bp_cow.specs.Touched.{leaves_of, path_of, word_paths}
use Rattle.bp_cow.proofs.RunsLaws.{length-above, way-word}
use Rattle.bp_cow.proofs.touched.Touched.len_of.Goals as goal

pub returns-in-Some : goal.returns-in-Some
returns-in-Some c =
    let runs = c.args.self.now.runs.now in
    let IsIts : Leaf → Type 0 = λ leaf. IsLeaf runs runs (word_paths c.args.self.now) c.args.i leaf.run.now leaf.index in
    let is : IsIts c.in-Some.leaf = subst (λ (o : Option Leaf). IfSome o IsIts) c.in-Some.is c.requires.leaf in
    c.way_len.ensures ∙ ap (λ (p : List ℕ). length p) (sym is.way)

pub returns-in-None : goal.returns-in-None
returns-in-None c =
    let runs = c.args.self.now.runs.now in
    let paths = word_paths c.args.self.now in
    let at : c.args.i - c.args.ends.now.leaves ≡ c.args.i - leaves_of runs = ap (λ n. c.args.i - n) c.requires.ends.leaves in
    omega (arith, c.path_len.ensures, ap (λ k. length (path_of paths k)) at, length-above (path_of paths (c.args.i - leaves_of runs)))
    ∙ ap (λ (p : List ℕ). length p) (sym (way-word runs paths c.args.i (c.requires.none c.in-None.is)))
