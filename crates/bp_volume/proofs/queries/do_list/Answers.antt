use Rattle.std.proofs.lemmas.Result.{err_from_is_err_and}
use Rattle.bp_volume.proofs.AskingLaws.{list_stops}
use Rattle.bp_volume.proofs.queries.do_list.Goals as goal

pub returns-in_err-ino-clause-reported : goal.returns-in_err-ino-clause-reported
returns-in_err-ino-clause-reported g c =
    let p = err_from_is_err_and c.from_residual.result c.from_residual.ensures.1 in
    rw (p.1, p.2) (list_stops _ c.args.text.now _ c.in_err-ino.ensures.stopped)
