use Rattle.std.proofs.Common.{◌≡◌, ◌∙◌, ◌*◌, ◌+◌, Some, min, false, true, sym, ap, arith, take, []}
use Rattle.std.proofs.lemmas.Result.{err_from_is_err_and}
use Rattle.bp_layout.specs.Tree.{content}
use Rattle.bp_plain.specs.Calls.Call.{write}
use Rattle.bp_plain.specs.Export.{is_zeros}
use Rattle.bp_script.specs.Export.{FitsText}
use Rattle.pm_region.specs.Memory.{current_words}
use Rattle.bp_export.proofs.FileLines.{end_known, no_write, one_write}
use Rattle.bp_export.proofs.Prefixes.{all_first}
use Rattle.bp_export.proofs.ReportLaws.{fails_as, reports_as, reports_nothing, reports_same}
use Rattle.bp_export.proofs.TreeStretches.{stretch_read}
use Rattle.bp_export.proofs.files.export_stretch.Goals as goal

pub returns-then-are_zeros-clause-noted : goal.returns-then-are_zeros-clause-noted
returns-then-are_zeros-clause-noted g c =
    let image = current_words (g.R.Region.memory c.args.region.now) in
    let here = stretch_read image c.args.tree.root c.args.tree.size c.args.leaf _ _ _ c.requires.room c.requires.live c.read-count.ensures.count c.read-count.ensures.bytes in
    sym (end_known (content image c.args.tree.root c.args.tree.size) c.args.leaf c.args.tree.size true (sym (c.are_zeros.ensures ∙ ap is_zeros here) ∙ c.if-are_zeros.true))

pub returns-then-are_zeros-clause-lines : goal.returns-then-are_zeros-clause-lines
returns-then-are_zeros-clause-lines g c =
    let image = current_words (g.R.Region.memory c.args.region.now) in
    let here = stretch_read image c.args.tree.root c.args.tree.size c.args.leaf _ _ _ c.requires.room c.requires.live c.read-count.ensures.count c.read-count.ensures.bytes in
    reports_same _ _ _ _ _ _ _
    (sym (no_write c.args.path.now (content image c.args.tree.root c.args.tree.size) c.args.leaf (sym (c.are_zeros.ensures ∙ ap is_zeros here) ∙ c.if-are_zeros.true)))
    (reports_nothing _ _ _)

pub report-requires : goal.report-requires
report-requires g c =
    let image = current_words (g.R.Region.memory c.args.region.now) in
    let here = stretch_read image c.args.tree.root c.args.tree.size c.args.leaf _ _ _ c.requires.room c.requires.live c.read-count.ensures.count c.read-count.ensures.bytes in
    all_first FitsText (write c.args.path.now (4096 * c.args.leaf) (take c.read-count.result c.read-count.new.into)) [] _
    (one_write c.args.path.now (content image c.args.tree.root c.args.tree.size) c.args.leaf _ here (sym (c.are_zeros.ensures ∙ ap is_zeros here) ∙ c.if-are_zeros.false))
    c.requires.short

pub returns-in_err-report-clause-lines : goal.returns-in_err-report-clause-lines
returns-in_err-report-clause-lines g c =
    let image = current_words (g.R.Region.memory c.args.region.now) in
    let here = stretch_read image c.args.tree.root c.args.tree.size c.args.leaf _ _ _ c.requires.room c.requires.live c.read-count.ensures.count c.read-count.ensures.bytes in
    let p = err_from_is_err_and c.from_residual.result c.from_residual.ensures.1 in
    rw p.1 (
    reports_same _ _ _ _ _ _ _
    (one_write c.args.path.now (content image c.args.tree.root c.args.tree.size) c.args.leaf _ here (sym (c.are_zeros.ensures ∙ ap is_zeros here) ∙ c.if-are_zeros.false))
    (fails_as _ _ _ _ _ _ _ _ c.in_err-report.ensures)
    )

pub returns-clause-noted : goal.returns-clause-noted
returns-clause-noted g c =
    let image = current_words (g.R.Region.memory c.args.region.now) in
    let here = stretch_read image c.args.tree.root c.args.tree.size c.args.leaf _ _ _ c.requires.room c.requires.live c.read-count.ensures.count c.read-count.ensures.bytes in
    let end : 4096 * c.args.leaf + c.read-count.result ≡ min (4096 * c.args.leaf + 4096) c.args.tree.size = omega (arith, c.read-count.ensures.count, c.requires.room, c.requires.live) in
    ap Some end ∙ sym (end_known (content image c.args.tree.root c.args.tree.size) c.args.leaf c.args.tree.size false (sym (c.are_zeros.ensures ∙ ap is_zeros here) ∙ c.if-are_zeros.false))

pub returns-clause-lines : goal.returns-clause-lines
returns-clause-lines g c =
    let image = current_words (g.R.Region.memory c.args.region.now) in
    let here = stretch_read image c.args.tree.root c.args.tree.size c.args.leaf _ _ _ c.requires.room c.requires.live c.read-count.ensures.count c.read-count.ensures.bytes in
    reports_same _ _ _ _ _ _ _
    (one_write c.args.path.now (content image c.args.tree.root c.args.tree.size) c.args.leaf _ here (sym (c.are_zeros.ensures ∙ ap is_zeros here) ∙ c.if-are_zeros.false))
    (reports_as _ _ _ _ _ _ _ c.in_ok-report.ensures)
