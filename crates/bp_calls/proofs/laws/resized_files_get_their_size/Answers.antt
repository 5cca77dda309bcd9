use Rattle.bp_changes.proofs.SameMeaning.{well_formed-same}
use Rattle.bp_calls.proofs.ResizedStands.{resized_gets}
use Rattle.bp_calls.proofs.ThawedShows.{found_thawed, shows_thawed}
use Rattle.bp_calls.proofs.laws.resized_files_get_their_size.Goals as goal

pub returns : goal.returns
returns c = λ i size done map here shows at.
    let old = c.args.old.now in
    let same = done.thawed.meaning in
    resized_gets done.middle c.args.new.now (well_formed-same old done.middle c.requires same) i size done.effect map here
    (shows_thawed old done.middle c.requires same map shows) (found_thawed old done.middle c.requires same here i at)
