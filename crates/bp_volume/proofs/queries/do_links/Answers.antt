use Rattle.std.proofs.lemmas.Result.{err_from_is_err_and}
use Rattle.bp_volume.proofs.AskingLaws.{at_reached, links_stops, links_reports}
use Rattle.bp_volume.proofs.queries.do_links.Goals as goal

pub links-requires-clause-reached : goal.links-requires-clause-reached
links-requires-clause-reached g c = at_reached _ c.requires.mounted.well_formed c.args.text.now _ c.in_ok-file.ensures.found

pub returns-clause-reported : goal.returns-clause-reported
returns-clause-reported g c = links_reports _ c.args.text.now _ c.in_ok-file.ensures.found _ c.in_ok-file.ensures.kind c.links.ensures

pub returns-in_err-file-clause-reported : goal.returns-in_err-file-clause-reported
returns-in_err-file-clause-reported g c =
    let p = err_from_is_err_and c.from_residual.result c.from_residual.ensures.1 in
    rw (p.1, p.2) (links_stops _ c.args.text.now _ c.in_err-file.ensures.refused)
