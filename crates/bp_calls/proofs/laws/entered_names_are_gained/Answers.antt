use Rattle.bp_changes.proofs.SameMeaning.{well_formed-same}
use Rattle.bp_calls.proofs.EnteredStands.{entered_gains}
use Rattle.bp_calls.proofs.ThawedShows.{found_thawed, shows_thawed}
use Rattle.bp_calls.proofs.laws.entered_names_are_gained.Goals as goal

pub returns : goal.returns
returns c = λ i name kind done map here shows found.
    let old = c.args.old.now in
    let same = done.thawed.meaning in
    entered_gains done.middle c.args.new.now (well_formed-same old done.middle c.requires same) i name kind done.effect map here
    (shows_thawed old done.middle c.requires same map shows) (found_thawed old done.middle c.requires same here i found)
