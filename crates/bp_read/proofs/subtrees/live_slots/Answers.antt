use Rattle.std.proofs.Common.{◌≡◌, ◌-◌, ◌*◌, ◌<◌, ◌∙◌, sym, ap, subst, arith}
use Rattle.bp_layout.specs.Words.{height_of}
use Rattle.bp_layout.specs.Tree.{span}
use Rattle.bp_layout.proofs.TreeLaws.{span-is}
use Rattle.bp_read.proofs.Below.{span_some, slots_all}
use Rattle.bp_read.proofs.subtrees.live_slots.Goals as goal

pub nonzero_div-result : goal.nonzero_div-result
nonzero_div-result c =
    let step : c.span.result ≡ span (c.height-level.result - 1) = c.span.ensures ∙ sym (span-is (c.height-level.result - 1)) in
    omega (arith, step, span_some (c.height-level.result - 1))

pub returns-clause-all : goal.returns-clause-all
returns-clause-all c slot live =
    let step : c.span.result ≡ span (height_of c.args.tree.root - 1) = c.span.ensures ∙ sym (span-is (c.height-level.result - 1)) ∙ ap (λ h. span (h - 1)) c.height-level.ensures in
    slots_all c.args.tree.size c.span.result slot (subst (λ s. 0 < s) (sym step) (span_some (height_of c.args.tree.root - 1))) (subst (λ s. slot * s < c.args.tree.size) (sym step) live)
