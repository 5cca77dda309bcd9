use Rattle.std.proofs.Common.{◌∙◌, sym, ap}
use Rattle.std.proofs.lemmas.Result.{err_from_is_err_and}
use Rattle.bp_volume.specs.Seen.{stat_seen}
use Rattle.bp_volume.proofs.AskingLaws.{at_reached, at_low, stat_says, stat_stops, stat_reports}
use Rattle.bp_volume.proofs.queries.do_stat.Goals as goal

pub stat-requires-clause-reached : goal.stat-requires-clause-reached
stat-requires-clause-reached g c = at_reached _ c.requires.well_formed c.args.text.now _ c.in_ok-ino.ensures.found

pub stat-requires-clause-inode : goal.stat-requires-clause-inode
stat-requires-clause-inode g c = at_low _ c.requires.well_formed c.args.text.now _ c.in_ok-ino.ensures.found

pub returns-clause-reported : goal.returns-clause-reported
returns-clause-reported g c =
    stat_reports _ c.args.text.now _ c.in_ok-ino.ensures.found _
    (λ tree here stands at. stat_says _ _ tree here stands at (at_low _ c.requires.well_formed c.args.text.now _ c.in_ok-ino.ensures.found) ∙ ap stat_seen (sym c.stat.ensures))

pub returns-in_err-ino-clause-reported : goal.returns-in_err-ino-clause-reported
returns-in_err-ino-clause-reported g c =
    let p = err_from_is_err_and c.from_residual.result c.from_residual.ensures.1 in
    rw (p.1, p.2) (stat_stops _ c.args.text.now _ c.in_err-ino.ensures.stopped)
