use Rattle.std.proofs.Common.{◌≡◌, ◌<◌, ◌≤◌, nat_le, false, sym, ◌∙◌, ap, subst, arith, inl, inr, unwrap_or}
use Rattle.std.proofs.lemmas.Bool.{cases_eq, le-leb, lt-leb}
use Rattle.bp_limits.specs.Limits.{max_height}
use Rattle.bp_layout.specs.Tree.{span}
use Rattle.bp_layout.proofs.Finding.{find-first, find-nothing}
use Rattle.bp_layout.proofs.TreeLaws.{span-is}
use Rattle.bp_append.proofs.need.height_for.Goals as goal

pub loop-height-preserved : goal.loop-height-preserved
loop-height-preserved c = record { none = λ h low. elim (cases_eq h c.loop-height.height) [ inl e ↦ subst (λ n. nat_le c.args.bytes (span n) ≡ false) (sym e) here | inr other ↦ c.loop-height.invariant.none h (omega (arith, low, other)) ] }
  where
    here : nat_le c.args.bytes (span c.loop-height.height) ≡ false
    here = lt-leb c.args.bytes (span c.loop-height.height) (subst (λ s. s < c.args.bytes) (c.span.ensures ∙ sym (span-is c.loop-height.height)) c.if-bytes-span.false)

pub returns-then-bytes-span : goal.returns-then-bytes-span
returns-then-bytes-span c =
    let fits : c.args.bytes ≤ span c.loop-height.height = subst (λ s. c.args.bytes ≤ s) (c.span.ensures ∙ sym (span-is c.loop-height.height)) c.if-bytes-span.true in
    sym (ap (λ found. unwrap_or found max_height)
    (find-first (λ height. nat_le c.args.bytes (span height)) 0 max_height c.loop-height.height (omega arith) c.loop-height-test.true (le-leb _ _ fits) (λ r low high. c.loop-height.invariant.none r high)))

pub returns : goal.returns
returns c =
    sym (ap (λ found. unwrap_or found max_height) (find-nothing (λ height. nat_le c.args.bytes (span height)) 0 max_height (λ r low high. c.loop-height.invariant.none r (omega (arith, high, c.loop-height-test.false)))))
