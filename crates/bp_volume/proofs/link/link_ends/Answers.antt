use Rattle.std.proofs.lemmas.Result.{err_from_is_err_and}
use Rattle.bp_volume.proofs.SharingLaws.{no_name, no_source, text_stops}
use Rattle.bp_volume.proofs.WalkingLaws.{ok_was}
use Rattle.bp_volume.proofs.link.link_ends.Goals as goal

pub returns-in_err-path-clause-refused : goal.returns-in_err-path-clause-refused
returns-in_err-path-clause-refused g c =
    let p = err_from_is_err_and c.from_residual.result c.from_residual.ensures.1 in
    rw (p.1, p.2) (text_stops _ c.args.from.now c.args.to.now c.parse.result _ c.in_err-path.ensures.cases c.parse.ensures.err)

pub returns-in_err-file-clause-refused : goal.returns-in_err-file-clause-refused
returns-in_err-file-clause-refused g c =
    let p = err_from_is_err_and c.from_residual-in_err-file.result c.from_residual-in_err-file.ensures.1 in
    rw (p.1, p.2) (no_source _ c.args.from.now c.args.to.now _ (ok_was _ c.parse.result _ c.in_ok-path.ensures.cases c.parse.ensures.ok) _ c.in_err-file.ensures.refused)

pub returns-in_err-name-clause-refused : goal.returns-in_err-name-clause-refused
returns-in_err-name-clause-refused g c =
    let p = err_from_is_err_and c.from_residual-in_err-name.result c.from_residual-in_err-name.ensures.1 in
    rw (p.1, p.2) (no_name _ c.args.from.now c.args.to.now _ c.in_ok-file.ensures.found c.in_ok-file.ensures.kind _ (λ tree stands. rw (ok_was _ c.parse.result _ c.in_ok-path.ensures.cases c.parse.ensures.ok) (c.in_err-name.ensures.refused tree stands)))

pub returns-clause-new : goal.returns-clause-new
returns-clause-new g c = record { path = c.in_ok-path.path; parsed = ok_was _ c.parse.result _ c.in_ok-path.ensures.cases c.parse.ensures.ok; new = c.in_ok-name.ensures.found }
