use Rattle.bp_changes.proofs.SameMeaning.{well_formed-same}
use Rattle.bp_calls.proofs.EnteredStands.{linked_shares}
use Rattle.bp_calls.proofs.ThawedShows.{found_thawed, shows_thawed}
use Rattle.bp_calls.proofs.laws.linked_names_are_shared.Goals as goal

pub returns : goal.returns
returns c = λ i name j done map from here shows file directory.
    let old = c.args.old.now in
    let same = done.thawed.meaning in
    linked_shares done.middle c.args.new.now (well_formed-same old done.middle c.requires same) i name j done.effect map from here
    (shows_thawed old done.middle c.requires same map shows) (found_thawed old done.middle c.requires same from j file) (found_thawed old done.middle c.requires same here i directory)
