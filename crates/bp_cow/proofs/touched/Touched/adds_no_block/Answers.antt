use Rattle.std.proofs.Common.{◌≡◌, ℕ, ◌<◌, List, length, sym, ◌∙◌, ap, arith}
use Rattle.std.specs.List.{slice_index}
use Rattle.std.proofs.lemmas.Bool.{eqb-true}
use Rattle.bp_cow.proofs.touched.Touched.adds_no_block.Goals as goal

pub returns-then-i-end-clause-leaf : goal.returns-then-i-end-clause-leaf
returns-then-i-end-clause-leaf c = λ is. omega (arith, c.if-i-end.true, c.min-end.ensures, c.requires.ends.leaves)

pub returns-then-i-end-clause-none : goal.returns-then-i-end-clause-none
returns-then-i-end-clause-none c = λ is d high.
    let fresh = c.args.shared.now.fresh.items in
    let low : c.args.i < length fresh = omega (arith, c.if-i-end.true, c.min-end.ensures, c.len.ensures.value) in
    let none : slice_index fresh c.args.i ≡ 0 = ap (λ (items : List ℕ). slice_index items c.args.i) (sym c.deref.ensures.0) ∙ eqb-true (slice_index c.deref.result.now c.args.i) 0 is in
    (c.requires.fresh.right c.args.i d low).0 (omega (arith, high, none))
