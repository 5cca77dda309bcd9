use Rattle.std.proofs.Common.{◌==◌, ℕ, ◌<◌, ◌≤◌, ◌++◌, List, [], ◌∷◌, slice_index, Some, sym, ◌∙◌, ap, subst, arith}
use Rattle.std.specs.Prelude.{if◌then◌else◌}
use Rattle.std.proofs.lemmas.Result.{err_from_is_err_and}
use Rattle.bp_export.specs.Firsts.{first_text}
use Rattle.bp_export.specs.Walking.{RemembersFirsts, itself}
use Rattle.bp_export.specs.declared.firsts.Firsts.{Firsts}
use Rattle.bp_layout.specs.Lookup.{node_of}
use Rattle.bp_layout.specs.Words.{Image}
use Rattle.bp_plain.specs.Calls.Call.{link}
use Rattle.bp_script.specs.Export.{FitsText}
use Rattle.pm_region.specs.Memory.{current_words}
use Rattle.bp_export.proofs.FirstTexts.{remembers_first, remembers_later, remembers_single}
use Rattle.bp_export.proofs.NameLaws.{at, counted, fits_from, fits_link, link_here, none_known, none_single, sound_here, toured, toured_from, tours_end, unremembered, untoured}
use Rattle.bp_export.proofs.ReportLaws.{reports_same}
use Rattle.bp_export.proofs.TreeLaws.{written_here}
use Rattle.bp_export.proofs.trees.export_name.Goals as goal

pub names-requires : goal.names-requires
names-requires g c =
    counted (current_words (g.R.Region.memory c.args.region.now)) c.requires.well_formed c.args.counts.now c.args.ino c.args.work.now.path.items c.args.work.now.firsts c.requires.stands.0 c.requires.stands.1 _ c.requires.inodes

-- ---- a file with one name

pub export_new-requires-clause-inode : goal.export_new-requires-clause-inode
export_new-requires-clause-inode g c = written_here _ c.requires.well_formed c.requires.stands.0.path c.args.ino c.requires.stands.1.found c.args.work.now.attributes c.requires.attributes

pub export_new-requires-clause-sound : goal.export_new-requires-clause-sound
export_new-requires-clause-sound g c =
    sound_here (current_words (g.R.Region.memory c.args.region.now)) c.requires.well_formed c.args.counts.now c.args.ino c.args.work.now.path.items c.args.work.now.firsts c.requires.stands.0 c.requires.stands.1 _ _ c.requires.root c.requires.size

pub export_new-requires-clause-short : goal.export_new-requires-clause-short
export_new-requires-clause-short g c =
    let image : Image = current_words (g.R.Region.memory c.args.region.now) in
    let counts = c.args.counts.now in
    let i : ℕ = c.args.ino in
    let text = c.args.work.now.path.items in
    let firsts = c.args.work.now.firsts in
    let place = c.requires.stands.0 in
    let stands = c.requires.stands.1 in
    let few : slice_index counts i ≤ 1 = subst (λ n. n ≤ 1) c.names.ensures c.if-names-le1.true in
    let low = counted image c.requires.well_formed counts i text firsts place stands _ c.requires.inodes in
    let new = none_single image c.requires.well_formed counts i text firsts place stands c.requires.below c.requires.file c.requires.counts low few in
    fits_from image c.requires.well_formed counts i text firsts place stands c.requires.below c.requires.file new _ _ c.requires.root c.requires.size

pub returns-then-names-le1-clause-tours : goal.returns-then-names-le1-clause-tours
returns-then-names-le1-clause-tours g c place stands =
    let image : Image = current_words (g.R.Region.memory c.args.region.now) in
    let counts = c.args.counts.now in
    let i : ℕ = c.args.ino in
    let text = c.args.work.now.path.items in
    let firsts = c.args.work.now.firsts in
    let few : slice_index counts i ≤ 1 = subst (λ n. n ≤ 1) c.names.ensures c.if-names-le1.true in
    let low = counted image c.requires.well_formed counts i text firsts place stands _ c.requires.inodes in
    let new = none_single image c.requires.well_formed counts i text firsts place stands c.requires.below c.requires.file c.requires.counts low few in
    let found = at image c.requires.well_formed counts i text firsts place stands c.requires.below c.requires.file in
    let noted = place.noted ++ itself image i place.tree place.path in
    toured_from image c.requires.well_formed counts i text firsts place stands c.requires.below c.requires.file new _ _ c.requires.root c.requires.size c.export_new.result _ _ _ _ c.export_new.ensures.goes _
    (subst (λ (after : Firsts). RemembersFirsts image counts after noted) (sym c.export_new.ensures.firsts) (remembers_single image counts firsts place.noted stands.remembers place.path (node_of image i) i found few))

-- ---- a later name

pub report-requires : goal.report-requires
report-requires g c =
    let several : 1 < slice_index c.args.counts.now c.args.ino = omega (arith, c.if-names-le1.false, c.names.ensures) in
    subst (λ (text : List ℕ). FitsText (link c.in-Some.first.now text)) (sym c.deref.ensures.value) (fits_link (current_words (g.R.Region.memory c.args.region.now)) c.requires.well_formed c.args.counts.now c.args.ino c.args.work.now.path.items c.args.work.now.firsts c.requires.stands.0 c.requires.stands.1 c.requires.below c.requires.file several c.in-Some.first.now c.in-Some.ensures)

pub returns-in_err-report-clause-tours : goal.returns-in_err-report-clause-tours
returns-in_err-report-clause-tours g c place stands =
    let image : Image = current_words (g.R.Region.memory c.args.region.now) in
    let several : 1 < slice_index c.args.counts.now c.args.ino = omega (arith, c.if-names-le1.false, c.names.ensures) in
    let p = err_from_is_err_and c.from_residual.result c.from_residual.ensures.1 in
    tours_end image c.requires.well_formed c.args.counts.now c.args.ino c.args.work.now.path.items c.args.work.now.firsts place stands _ p.0 p.1 _ _ _ _ _ (untoured image c.requires.well_formed c.args.counts.now c.args.ino c.args.work.now.path.items c.args.work.now.firsts place stands _ _ _ _ _ _ _ p.0 p.2 _
    (link_here image c.requires.well_formed c.args.counts.now c.args.ino c.args.work.now.path.items c.args.work.now.firsts place stands c.requires.below c.requires.file several c.in-Some.first.now c.in-Some.ensures)
    (reports_same _ _ _ _ _ _ _ (ap (λ (text : List ℕ). link c.in-Some.first.now text ∷ []) c.deref.ensures.value) c.in_err-report.ensures) _)

pub returns-in-Some-clause-tours : goal.returns-in-Some-clause-tours
returns-in-Some-clause-tours g c place stands =
    let image : Image = current_words (g.R.Region.memory c.args.region.now) in
    let counts = c.args.counts.now in
    let i : ℕ = c.args.ino in
    let text = c.args.work.now.path.items in
    let firsts = c.args.work.now.firsts in
    let several : 1 < slice_index counts i = omega (arith, c.if-names-le1.false, c.names.ensures) in
    let found = at image c.requires.well_formed counts i text firsts place stands c.requires.below c.requires.file in
    toured image c.requires.well_formed counts i text firsts place stands _ _ _ _ _ _ _
    (link_here image c.requires.well_formed counts i text firsts place stands c.requires.below c.requires.file several c.in-Some.first.now c.in-Some.ensures)
    (reports_same _ _ _ _ _ _ _ (ap (λ (text : List ℕ). link c.in-Some.first.now text ∷ []) c.deref.ensures.value) c.in_ok-report.ensures) _
    (remembers_later image counts firsts place.noted stands.remembers place.path (node_of image i) i found c.in-Some.first.now c.in-Some.ensures)

-- ---- the first of several

pub returns-in_err-add-clause-tours : goal.returns-in_err-add-clause-tours
returns-in_err-add-clause-tours g c place stands =
    let image : Image = current_words (g.R.Region.memory c.args.region.now) in
    let p = err_from_is_err_and c.from_residual-in_err-add.result c.from_residual-in_err-add.ensures.1 in
    tours_end image c.requires.well_formed c.args.counts.now c.args.ino c.args.work.now.path.items c.args.work.now.firsts place stands _ p.0 p.1 _ _ _ _ _ (unremembered image c.requires.well_formed c.args.counts.now c.args.ino c.args.work.now.path.items c.args.work.now.firsts place stands _ p.0 p.2 _ _ _)

pub export_new-requires-2-clause-inode : goal.export_new-requires-2-clause-inode
export_new-requires-2-clause-inode g c = written_here _ c.requires.well_formed c.requires.stands.0.path c.args.ino c.requires.stands.1.found c.args.work.now.attributes c.requires.attributes

pub export_new-requires-2-clause-sound : goal.export_new-requires-2-clause-sound
export_new-requires-2-clause-sound g c =
    sound_here (current_words (g.R.Region.memory c.args.region.now)) c.requires.well_formed c.args.counts.now c.args.ino c.args.work.now.path.items c.args.work.now.firsts c.requires.stands.0 c.requires.stands.1 _ _ c.requires.root c.requires.size

pub export_new-requires-2-clause-short : goal.export_new-requires-2-clause-short
export_new-requires-2-clause-short g c =
    let image : Image = current_words (g.R.Region.memory c.args.region.now) in
    let counts = c.args.counts.now in
    let i : ℕ = c.args.ino in
    let text = c.args.work.now.path.items in
    let firsts = c.args.work.now.firsts in
    let place = c.requires.stands.0 in
    let stands = c.requires.stands.1 in
    let several : 1 < slice_index counts i = omega (arith, c.if-names-le1.false, c.names.ensures) in
    let new = none_known image c.requires.well_formed counts i text firsts place stands c.requires.below c.requires.file several c.in_default.ensures in
    fits_from image c.requires.well_formed counts i text firsts place stands c.requires.below c.requires.file new _ _ c.requires.root c.requires.size

pub returns-clause-tours : goal.returns-clause-tours
returns-clause-tours g c place stands =
    let image : Image = current_words (g.R.Region.memory c.args.region.now) in
    let counts = c.args.counts.now in
    let i : ℕ = c.args.ino in
    let text = c.args.work.now.path.items in
    let firsts = c.args.work.now.firsts in
    let several : 1 < slice_index counts i = omega (arith, c.if-names-le1.false, c.names.ensures) in
    let new = none_known image c.requires.well_formed counts i text firsts place stands c.requires.below c.requires.file several c.in_default.ensures in
    let found = at image c.requires.well_formed counts i text firsts place stands c.requires.below c.requires.file in
    let noted = place.noted ++ itself image i place.tree place.path in
    let added = λ (j : ℕ). c.in_ok-add.ensures j ∙ ap (λ l. if j == i then Some l else first_text firsts j) (c.deref-2.ensures.value ∙ stands.spelled) in
    toured_from image c.requires.well_formed counts i text firsts place stands c.requires.below c.requires.file new _ _ c.requires.root c.requires.size c.export_new-2.result _ _ _ _ c.export_new-2.ensures.goes _
    (subst (λ (after : Firsts). RemembersFirsts image counts after noted) (sym c.export_new-2.ensures.firsts) (remembers_first image counts firsts place.noted stands.remembers place.path (node_of image i) i found c.add.new.self c.in_default.ensures added))
