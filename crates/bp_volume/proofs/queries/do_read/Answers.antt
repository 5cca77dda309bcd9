use Rattle.std.proofs.lemmas.Result.{err_from_is_err_and}
use Rattle.pm_region.specs.Memory.{current_words}
use Rattle.bp_volume.proofs.AskingLaws.{at_reached, read_stops, read_reports}
use Rattle.bp_volume.proofs.queries.do_read.Goals as goal

pub read-requires-clause-reached : goal.read-requires-clause-reached
read-requires-clause-reached g c = at_reached _ c.requires.well_formed c.args.text.now _ c.in_ok-file.ensures.found

pub returns-clause-reported : goal.returns-clause-reported
returns-clause-reported g c = read_reports (current_words (g.R.Region.memory c.args.region.now)) c.args.text.now c.in_ok-file.file.ino c.in_ok-file.ensures.found c.args.offset _ _ c.in_ok-file.ensures.kind c.read.ensures.bytes

pub returns-in_err-file-clause-reported : goal.returns-in_err-file-clause-reported
returns-in_err-file-clause-reported g c =
    let p = err_from_is_err_and c.from_residual.result c.from_residual.ensures.1 in
    rw (p.1, p.2) (read_stops _ c.args.text.now _ _ _ c.in_err-file.ensures.refused)
