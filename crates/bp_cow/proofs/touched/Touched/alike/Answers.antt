use Rattle.std.proofs.Common.{◌≡◌, ◌+◌, ◌-◌, ◌≤◌, suc, subst, arith}
use Rattle.std.specs.Prelude.{◌↔◌}
use Rattle.bp_cow.specs.Cover.{ends}
use Rattle.bp_cow.proofs.AlikeEnds.{FirstAlike, all-alike, first-next}
use Rattle.bp_cow.proofs.CoverLaws.{some-ends}
use Rattle.bp_cow.proofs.touched.Touched.alike.Goals as goal

pub end_len-alike-requires-clause-i : goal.end_len-alike-requires-clause-i
end_len-alike-requires-clause-i c = some-ends c.args.self.now c.requires.touched

pub alike_at-alike-requires-clause-before : goal.alike_at-alike-requires-clause-before
alike_at-alike-requires-clause-before c =
    (c.loop-i.invariant c.loop-i.alike).0 (omega arith) (c.loop-i.i - 1) (omega (arith, c.loop-i.auto.i))

pub loop-i-preserved : goal.loop-i-preserved
loop-i-preserved c n =
    let next : suc c.loop-i.i ≡ c.loop-i.i + 1 = omega arith in
    subst (λ i. (n ≤ c.alike_at-alike.result) ↔ FirstAlike c.args.self.now i n) next
    (first-next c.args.self.now c.loop-i.i c.loop-i.alike c.alike_at-alike.result c.loop-i.invariant c.alike_at-alike.ensures n)

pub returns : goal.returns
returns c n =
    let end : c.loop-i.i ≡ ends c.args.self.now = omega (arith, c.loop-i-test.false, c.loop-i.auto.i-end, c.ends-i-end.ensures, some-ends c.args.self.now c.requires.touched) in
    let both = all-alike c.args.self.now c.loop-i.i n end in
    (λ low. both.0 ((c.loop-i.invariant n).0 low), λ alike. (c.loop-i.invariant n).1 (both.1 alike))
