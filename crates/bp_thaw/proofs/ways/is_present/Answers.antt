use Rattle.std.proofs.Common.{◌≡◌, ◌*◌, ◌<◌, ◌∙◌, sym, subst, arith}
use Rattle.std.proofs.lemmas.Bool.{lt-leb}
use Rattle.bp_layout.specs.Tree.{span}
use Rattle.bp_layout.proofs.TreeLaws.{span-is}
use Rattle.bp_read.proofs.Below.{slots_all, span_some}
use Rattle.bp_thaw.proofs.WayNumbers.{present_far}
use Rattle.pm_region.specs.Memory.{current_words}
use Rattle.bp_thaw.proofs.ways.is_present.Goals as goal

pub nonzero_div-tree : goal.nonzero_div-tree
nonzero_div-tree g c =
    let step : c.span.result ≡ span c.args.level = c.span.ensures ∙ sym (span-is c.args.level) in
    omega (arith, step, span_some c.args.level)

pub returns-else-index-tree : goal.returns-else-index-tree
returns-else-index-tree g c =
    let step : c.span.result ≡ span c.args.level = c.span.ensures ∙ sym (span-is c.args.level) in
    lt-leb _ _ (omega (arith, c.if-index-tree.false)) ∙ sym (present_far (current_words (g.R.Region.memory c.args.region.now)) c.args.tree.root c.args.tree.size c.args.level c.args.index
    (λ below.
    let low = slots_all c.args.tree.size c.span.result c.args.index (subst (λ s. 0 < s) (sym step) (span_some c.args.level)) (subst (λ s. c.args.index * s < c.args.tree.size) (sym step) below) in
    omega (arith, low, c.if-index-tree.false)))
