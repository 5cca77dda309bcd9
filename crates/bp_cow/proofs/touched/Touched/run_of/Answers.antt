use Rattle.std.proofs.Common.{◌≡◌, ℕ, ◌+◌, ◌-◌, ◌<◌, List, length, take, ◌∙◌, ap, subst, arith}
use Rattle.std.specs.List.{slice_index}
use Rattle.bp_cow.specs.Touched.{leaves_of}
use Rattle.bp_cow.proofs.RunsLaws.{run-most, some-runs}
use Rattle.bp_cow.proofs.touched.Touched.run_of.Goals as goal

pub overflow_sub-self : goal.overflow_sub-self
overflow_sub-self c = omega (arith, some-runs c.args.self.now.runs.now c.args.i c.requires.i)

pub loop-number-init : goal.loop-number-init
loop-number-init c = run-most c.args.self.now.runs.now c.args.i c.min-most.result c.requires.i c.min-most.ensures

pub returns-then-end-i-clause-low : goal.returns-then-end-i-clause-low
returns-then-end-i-clause-low c =
    omega (arith, c.loop-number-test.true, c.loop-number.auto.number, c.min-most.ensures, some-runs c.args.self.now.runs.now c.args.i c.requires.i)

pub returns-then-end-i-clause-past : goal.returns-then-end-i-clause-past
returns-then-end-i-clause-past c =
    let runs = c.args.self.now.runs.now in
    let k = c.loop-number.number - 1 in
    let low : k < length c.args.ends.now.inner.items = omega (arith, c.requires.ends.each, c.loop-number-test.true, c.loop-number.auto.number, c.min-most.ensures) in
    let end : c.from-end.result ≡ leaves_of (take (k + 1) runs) = c.from-end.ensures ∙ ap (λ (items : List ℕ). slice_index items k) c.deref.ensures.0 ∙ c.requires.ends.right k low in
    omega (arith, c.if-end-i.true, end)

pub returns-then-end-i-clause-here : goal.returns-then-end-i-clause-here
returns-then-end-i-clause-here c =
    let next : c.loop-number.number ≡ c.loop-number.number - 1 + 1 = omega (arith, c.loop-number-test.true) in
    subst (λ k. c.args.i < leaves_of (take (k + 1) c.args.self.now.runs.now)) next c.loop-number.invariant

pub loop-number-preserved : goal.loop-number-preserved
loop-number-preserved c =
    let runs = c.args.self.now.runs.now in
    let k = c.loop-number.number - 1 in
    let low : k < length c.args.ends.now.inner.items = omega (arith, c.requires.ends.each, c.loop-number-test.true, c.loop-number.auto.number, c.min-most.ensures) in
    let end : c.from-end.result ≡ leaves_of (take (k + 1) runs) = c.from-end.ensures ∙ ap (λ (items : List ℕ). slice_index items k) c.deref.ensures.0 ∙ c.requires.ends.right k low in
    omega (arith, c.if-end-i.false, end)

pub returns-clause-low : goal.returns-clause-low
returns-clause-low c = some-runs c.args.self.now.runs.now c.args.i c.requires.i

pub returns-clause-past : goal.returns-clause-past
returns-clause-past c = omega arith

pub returns-clause-here : goal.returns-clause-here
returns-clause-here c =
    let end : c.loop-number.number ≡ 0 = omega (arith, c.loop-number-test.false) in
    subst (λ k. c.args.i < leaves_of (take (k + 1) c.args.self.now.runs.now)) end c.loop-number.invariant
