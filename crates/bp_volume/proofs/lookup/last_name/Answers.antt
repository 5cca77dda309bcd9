use Rattle.std.proofs.Common.{sym, ◌∙◌, ap}
use Rattle.std.proofs.lemmas.Result.{err_from_is_err_and}
use Rattle.std.specs.Option.{is_some}
use Rattle.bp_read.specs.Spots.{named_slot}
use Rattle.bp_plain.specs.Plain.{parent_of}
use Rattle.bp_fs.specs.Step.{last_of}
use Rattle.bp_volume.proofs.CreateLaws.{by_parent}
use Rattle.bp_volume.proofs.WalkingLaws.{fault_reported, ok_was, parent_stops, name_is_new, name_is_there}
use Rattle.bp_volume.proofs.lookup.last_name.Goals as goal

pub returns-in-Named-clause-refused : goal.returns-in-Named-clause-refused
returns-in-Named-clause-refused g c =
    name_is_there _ c.args.path.now c.requires.below c.in_ok-dir.dir (ok_was _ c.walk_parent_by.result _ c.in_ok-dir.ensures.cases (c.walk_parent_by.ensures.lookup (parent_of c.args.path.now) (last_of c.args.path.now) (by_parent c.args.path.now c.requires.below))) (ok_was _ c.walk_parent_by.result _ c.in_ok-dir.ensures.cases c.walk_parent_by.ensures.kind)
    c.last-name.result.now (c.last-name.ensures.last (parent_of c.args.path.now) (last_of c.args.path.now) (by_parent c.args.path.now c.requires.below)) (ap is_some (sym c.spot_of.ensures.named) ∙ ap (λ spot. is_some (named_slot spot)) c.in-Named.is)

pub returns-in-Free-clause-found : goal.returns-in-Free-clause-found
returns-in-Free-clause-found g c =
    name_is_new _ c.args.path.now c.requires.below c.in_ok-dir.dir (ok_was _ c.walk_parent_by.result _ c.in_ok-dir.ensures.cases (c.walk_parent_by.ensures.lookup (parent_of c.args.path.now) (last_of c.args.path.now) (by_parent c.args.path.now c.requires.below))) (ok_was _ c.walk_parent_by.result _ c.in_ok-dir.ensures.cases c.walk_parent_by.ensures.kind)
    c.last-name.result.now (c.last-name.ensures.last (parent_of c.args.path.now) (last_of c.args.path.now) (by_parent c.args.path.now c.requires.below)) c.last-name.ensures.name (ap is_some (sym c.spot_of.ensures.named) ∙ ap (λ spot. is_some (named_slot spot)) c.in-Free.is)

pub returns-in_err-dir-clause-refused : goal.returns-in_err-dir-clause-refused
returns-in_err-dir-clause-refused g c =
    let p = err_from_is_err_and c.from_residual.result c.from_residual.ensures.1 in
    rw (p.1, p.2) (parent_stops _ c.args.path.now _ _ c.requires.below (c.walk_parent_by.ensures.walked (parent_of c.args.path.now) (last_of c.args.path.now) (by_parent c.args.path.now c.requires.below)) (fault_reported c.walk_parent_by.result _ c.in_err-dir.ensures.cases))
