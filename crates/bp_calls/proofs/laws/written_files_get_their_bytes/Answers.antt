use Rattle.bp_changes.proofs.SameMeaning.{well_formed-same}
use Rattle.bp_calls.proofs.ThawedShows.{found_thawed, shows_thawed}
use Rattle.bp_calls.proofs.WrittenStands.{written_gets}
use Rattle.bp_calls.proofs.laws.written_files_get_their_bytes.Goals as goal

pub returns : goal.returns
returns c = λ i offset bytes done map here shows at.
    let old = c.args.old.now in
    let same = done.thawed.meaning in
    written_gets done.middle c.args.new.now (well_formed-same old done.middle c.requires same) i offset bytes done.effect map here
    (shows_thawed old done.middle c.requires same map shows) (found_thawed old done.middle c.requires same here i at)
