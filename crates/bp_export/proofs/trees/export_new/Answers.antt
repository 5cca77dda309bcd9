use Rattle.std.proofs.Common.{ℕ, [], ◌++◌, List, sym, ap, subst}
use Rattle.std.specs.Prelude.{All}
use Rattle.std.proofs.lemmas.Result.{err_from_is_err_and}
use Rattle.bp_layout.specs.Inode.{attributes_of}
use Rattle.bp_plain.specs.Export.{sets_of}
use Rattle.bp_script.specs.Export.{FitsText}
use Rattle.pm_region.specs.Memory.{current_words}
use Rattle.bp_export.specs.Report.{calls_to_make}
use Rattle.bp_export.proofs.GoingLaws.{goes_end, goes_reported, goes_unreported}
use Rattle.bp_export.proofs.Prefixes.{all_back, all_prefix}
use Rattle.bp_export.proofs.ReportLaws.{fails_before, reports_same, reports_then}
use Rattle.bp_export.proofs.trees.export_new.Goals as goal

pub export_file-requires-clause-short : goal.export_file-requires-clause-short
export_file-requires-clause-short g c =
    let memory = g.R.Region.memory c.args.region.now in
    let text = c.args.work.now.path.items in
    let values = attributes_of (current_words memory) c.args.ino in
    subst (λ (t : List ℕ). All FitsText (calls_to_make t memory c.args.tree)) (sym c.deref.ensures.value)
    (all_prefix FitsText (calls_to_make text memory c.args.tree) (sets_of text values) c.requires.short)

pub returns-in_err-export_file-clause-goes : goal.returns-in_err-export_file-clause-goes
returns-in_err-export_file-clause-goes g c =
    let memory = g.R.Region.memory c.args.region.now in
    let text = c.args.work.now.path.items in
    let values = attributes_of (current_words memory) c.args.ino in
    let p = err_from_is_err_and c.from_residual.result c.from_residual.ensures.1 in
    goes_end _ p.0 p.1 (calls_to_make text memory c.args.tree ++ sets_of text values) _ _ _ _
    (goes_unreported (Unit {0}) (Unit {0}) _ p.0 p.2 (calls_to_make text memory c.args.tree ++ sets_of text values) _ [] _ _ _
    (fails_before _ _ (calls_to_make text memory c.args.tree) (sets_of text values) _ _ _ _ _
    (reports_same _ _ _ _ _ _ _ (ap (λ (t : List ℕ). calls_to_make t memory c.args.tree) c.deref.ensures.value) c.in_err-export_file.ensures.lines)))

pub export_attributes-requires-clause-short : goal.export_attributes-requires-clause-short
export_attributes-requires-clause-short g c =
    let memory = g.R.Region.memory c.args.region.now in
    let text = c.args.work.now.path.items in
    let values = attributes_of (current_words memory) c.args.ino in
    subst (λ (t : List ℕ). All FitsText (sets_of t values)) (sym c.deref-2.ensures.value)
    (all_back FitsText (calls_to_make text memory c.args.tree) (sets_of text values) c.requires.short)

pub returns-in_err-export_attributes-clause-goes : goal.returns-in_err-export_attributes-clause-goes
returns-in_err-export_attributes-clause-goes g c =
    let memory = g.R.Region.memory c.args.region.now in
    let text = c.args.work.now.path.items in
    let values = attributes_of (current_words memory) c.args.ino in
    let p = err_from_is_err_and c.from_residual-in_err-export_attributes.result c.from_residual-in_err-export_attributes.ensures.1 in
    goes_end _ p.0 p.1 (calls_to_make text memory c.args.tree ++ sets_of text values) _ _ _ _
    (goes_unreported (Unit {0}) (Unit {0}) _ p.0 p.2 (calls_to_make text memory c.args.tree ++ sets_of text values) _ _ _ _ _
    (reports_then _ _ (calls_to_make text memory c.args.tree) (sets_of text values) _ _ _ _ _ _
    (reports_same _ _ _ _ _ _ _ (ap (λ (t : List ℕ). calls_to_make t memory c.args.tree) c.deref.ensures.value) c.in_ok-export_file.ensures.lines)
    (reports_same _ _ _ _ _ _ _ (ap (λ (t : List ℕ). sets_of t values) c.deref-2.ensures.value) c.in_err-export_attributes.ensures)))

pub returns-clause-goes : goal.returns-clause-goes
returns-clause-goes g c =
    let memory = g.R.Region.memory c.args.region.now in
    let text = c.args.work.now.path.items in
    let values = attributes_of (current_words memory) c.args.ino in
    goes_reported {T = Unit {0}} _ tt (calls_to_make text memory c.args.tree ++ sets_of text values) _ _ _ _
    (reports_then _ _ (calls_to_make text memory c.args.tree) (sets_of text values) _ _ _ _ _ _
    (reports_same _ _ _ _ _ _ _ (ap (λ (t : List ℕ). calls_to_make t memory c.args.tree) c.deref.ensures.value) c.in_ok-export_file.ensures.lines)
    (reports_same _ _ _ _ _ _ _ (ap (λ (t : List ℕ). sets_of t values) c.deref-2.ensures.value) c.in_ok-export_attributes.ensures))
