use Rattle.std.proofs.Common.{[], ◌∷◌, ◌++◌, subst}
use Rattle.bp_changes.proofs.SameMeaning.{name-same, well_formed-same}
use Rattle.bp_layout.specs.Paths.{Name}
use Rattle.bp_plain.specs.Plain.{with_nothing}
use Rattle.bp_plain.specs.Stands.{Shows}
use Rattle.bp_stands.proofs.UnlinkStands.{unlink_shows}
use Rattle.bp_calls.proofs.LeavingThawed.{unlinks_on}
use Rattle.bp_calls.proofs.ThawedShows.{found_thawed, shows_thawed}
use Rattle.bp_calls.proofs.laws.removed_names_are_lost.Goals as goal

pub returns : goal.returns
returns c = λ i s j can done map here shows at.
    let old = c.args.old.now in
    let same = done.thawed.meaning in
    subst (λ (name : Name). Shows c.args.new.now (with_nothing map (here ++ name ∷ []))) (name-same old done.middle c.requires same i s j can.reached can.entry)
    (unlink_shows done.middle c.args.new.now (well_formed-same old done.middle c.requires same) i s j (unlinks_on old done.middle c.requires same i s j can) done.effect here
    (found_thawed old done.middle c.requires same here i at) map (shows_thawed old done.middle c.requires same map shows))
