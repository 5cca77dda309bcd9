use Rattle.std.proofs.Common.{◌≡◌, List, Some, None, [], ◌∷◌, ◌<◌, length, ◌∙◌, ap, arith}
use Rattle.std.specs.List.{slice_get}
use Rattle.bp_cow.specs.declared.touched.Run.{Run}
use Rattle.bp_cow.specs.Touched.{leaves_of, run_leaves}
use Rattle.bp_cow.proofs.RunsLaws.{has-first}
use Rattle.bp_cow.proofs.touched.Touched.first_leaves.Goals as goal

of-first : (runs : List Run) (run : Run) → Some run ≡ slice_get runs 0 → length runs < 2 → run_leaves run ≡ leaves_of runs
of-first [] run is few = absurd (cc)
of-first (first ∷ []) run is few = let one : run ≡ first = cc in let same : run_leaves run ≡ run_leaves first = ap (λ (r : Run). run_leaves r) one in omega (arith, same)
of-first (first ∷ second ∷ runs) run is few = absurd (omega (arith, few))

of-none : (runs : List Run) → None ≡ slice_get runs 0 → 0 ≡ leaves_of runs
of-none [] is = omega arith
of-none (first ∷ runs) is = absurd (cc)

pub leaves-requires : goal.leaves-requires
leaves-requires c = c.requires.runs c.in-Some.run'.now (has-first c.args.self.now.runs.now c.in-Some.run'.now c.in-Some.ensures.value)

pub returns-in-Some : goal.returns-in-Some
returns-in-Some c = λ few. c.leaves.ensures ∙ of-first c.args.self.now.runs.now c.in-Some.run'.now c.in-Some.ensures.value few

pub returns-in-None : goal.returns-in-None
returns-in-None c = λ few. of-none c.args.self.now.runs.now c.in-None.ensures.value
