use Rattle.std.proofs.Common.{◌∙◌, ap}
use Rattle.std.proofs.lemmas.Result.{err_from_is_err_and}
use Rattle.bp_layout.specs.Directory.{slot_named}
use Rattle.bp_plain.specs.Plain.{parent_of}
use Rattle.pm_region.specs.Memory.{current_words}
use Rattle.bp_fs.specs.Step.{last_of}
use Rattle.bp_volume.proofs.CreateLaws.{by_parent}
use Rattle.bp_volume.proofs.WalkingLaws.{entry_ends, entry_found, ok_was, walk_reported}
use Rattle.bp_volume.proofs.lookup.entry_on.Goals as goal

pub returns-clause-found : goal.returns-clause-found
returns-clause-found g c =
    entry_found _ c.args.path.now c.in_ok-entry.entry c.requires.below (ok_was _ c.walk_by.result _ c.in_ok-entry.ensures.cases c.walk_by.ensures.entry) (ok_was _ c.walk_by.result _ c.in_ok-entry.ensures.cases c.walk_by.ensures.lookup)

pub returns-clause-named : goal.returns-clause-named
returns-clause-named g c =
    ap (slot_named (current_words (g.R.Region.memory c.args.region.now)) c.in_ok-entry.entry.dir) (c.last.ensures.last (parent_of c.args.path.now) (last_of c.args.path.now) (by_parent c.args.path.now c.requires.below))
    ∙ (entry_found _ c.args.path.now c.in_ok-entry.entry c.requires.below (ok_was _ c.walk_by.result _ c.in_ok-entry.ensures.cases c.walk_by.ensures.entry) (ok_was _ c.walk_by.result _ c.in_ok-entry.ensures.cases c.walk_by.ensures.lookup)).slot

pub returns-in_err-entry-clause-refused : goal.returns-in_err-entry-clause-refused
returns-in_err-entry-clause-refused g c =
    let p = err_from_is_err_and c.from_residual.result c.from_residual.ensures.1 in
    rw (p.1, p.2) (λ root. entry_ends _ c.args.path.now root _ c.requires.below (walk_reported _ c.args.path.now c.walk_by.result _ c.walk_by.ensures.walked c.in_err-entry.ensures.cases))
