use Rattle.std.proofs.Common.{All, ◌∷◌, [], ◌++◌, sym, subst, refl}
use Rattle.std.proofs.lemmas.Result.{err_from_is_err_and}
use Rattle.bp_layout.specs.Tree.{content}
use Rattle.bp_plain.specs.Calls.Call.{create}
use Rattle.bp_plain.specs.Export.{size_call, writes_of}
use Rattle.bp_script.specs.Export.{FitsText}
use Rattle.pm_region.specs.Memory.{current_words}
use Rattle.bp_export.proofs.Prefixes.{all_back, all_first, all_prefix}
use Rattle.bp_export.proofs.ReportLaws.{fails_before, reports_same, reports_then}
use Rattle.bp_export.proofs.files.export_file.Goals as goal

pub report-requires : goal.report-requires
report-requires g c =
    let bytes = content (current_words (g.R.Region.memory c.args.region.now)) c.args.tree.root c.args.tree.size in
    all_first FitsText (create c.args.path.now) (writes_of c.args.path.now bytes ++ size_call c.args.path.now bytes) _ refl c.requires.short

pub returns-in_err-report-clause-lines : goal.returns-in_err-report-clause-lines
returns-in_err-report-clause-lines g c =
    let bytes = content (current_words (g.R.Region.memory c.args.region.now)) c.args.tree.root c.args.tree.size in
    let p = err_from_is_err_and c.from_residual.result c.from_residual.ensures.1 in
    rw p.1 (fails_before _ _ (create c.args.path.now ∷ []) (writes_of c.args.path.now bytes ++ size_call c.args.path.now bytes) _ _ _ _ _ c.in_err-report.ensures)

pub export_leaves-requires-clause-short : goal.export_leaves-requires-clause-short
export_leaves-requires-clause-short g c =
    let bytes = content (current_words (g.R.Region.memory c.args.region.now)) c.args.tree.root c.args.tree.size in
    all_prefix FitsText (writes_of c.args.path.now bytes) (size_call c.args.path.now bytes)
    (all_back FitsText (create c.args.path.now ∷ []) (writes_of c.args.path.now bytes ++ size_call c.args.path.now bytes) c.requires.short)

pub returns-in_err-noted-clause-lines : goal.returns-in_err-noted-clause-lines
returns-in_err-noted-clause-lines g c =
    let bytes = content (current_words (g.R.Region.memory c.args.region.now)) c.args.tree.root c.args.tree.size in
    let p = err_from_is_err_and c.from_residual-in_err-noted.result c.from_residual-in_err-noted.ensures.1 in
    rw p.1 (
    fails_before _ _ (create c.args.path.now ∷ writes_of c.args.path.now bytes) (size_call c.args.path.now bytes) _ _ _ _ _
    (reports_then _ _ (create c.args.path.now ∷ []) (writes_of c.args.path.now bytes) _ _ _ _ _ _ c.in_ok-report.ensures c.in_err-noted.ensures.lines)
    )

pub export_size-requires : goal.export_size-requires
export_size-requires g c =
    let bytes = content (current_words (g.R.Region.memory c.args.region.now)) c.args.tree.root c.args.tree.size in
    subst (All FitsText) (sym c.in_ok-noted.ensures.noted)
    (all_back FitsText (writes_of c.args.path.now bytes) (size_call c.args.path.now bytes)
    (all_back FitsText (create c.args.path.now ∷ []) (writes_of c.args.path.now bytes ++ size_call c.args.path.now bytes) c.requires.short))

pub returns-clause-lines : goal.returns-clause-lines
returns-clause-lines g c =
    let bytes = content (current_words (g.R.Region.memory c.args.region.now)) c.args.tree.root c.args.tree.size in
    reports_then _ c.export_size.result (create c.args.path.now ∷ writes_of c.args.path.now bytes) (size_call c.args.path.now bytes) _ _ _ _ _ _
    (reports_then _ _ (create c.args.path.now ∷ []) (writes_of c.args.path.now bytes) _ _ _ _ _ _ c.in_ok-report.ensures c.in_ok-noted.ensures.lines)
    (reports_same _ _ _ _ _ _ _ c.in_ok-noted.ensures.noted c.export_size.ensures)
