use Rattle.bp_changes.proofs.SameMeaning.{well_formed-same}
use Rattle.bp_stands.proofs.OverwriteStands.{pieces_shows}
use Rattle.bp_calls.proofs.ThawedShows.{patches_thawed, shows_thawed}
use Rattle.bp_calls.proofs.laws.overwritten_files_get_their_bytes.Goals as goal

pub returns : goal.returns
returns c = λ pieces laid map shows.
    let old = c.args.old.now in
    let done = laid.overwrites in
    let same = done.thawed.meaning in
    pieces_shows done.middle c.args.new.now (well_formed-same old done.middle c.requires same) pieces laid.patches (patches_thawed old done.middle c.requires done.thawed pieces laid.patches laid.are) done.effect map
    (shows_thawed old done.middle c.requires same map shows)
