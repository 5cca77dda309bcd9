use Rattle.std.proofs.Common.{ap}
use Rattle.std.proofs.lemmas.Result.{MatchResult-weaker, on_err_weaker, on_ok_weaker}
use Rattle.bp_changes.specs.Sets.{in_snapshot_of}
use Rattle.bp_free.specs.declared.parts.Parts.{Parts}
use Rattle.bp_layout.specs.Need.Change.{sets}
use Rattle.bp_volume.proofs.AskingLaws.{at_low, at_reached}
use Rattle.bp_volume.proofs.AttributeLaws.{few_set, set_keeps, set_makes, set_shows}
use Rattle.bp_volume.proofs.CacheLaws.{names_kept}
use Rattle.bp_volume.proofs.ChangeLaws.{carried_or_lacks, lacks_space, performs_call}
use Rattle.bp_volume.proofs.FewThawed.{few_room, performs_room}
use Rattle.bp_volume.proofs.attributes.set_on.Goals as goal

pub set_attribute-requires-clause-mounted : goal.set_attribute-requires-clause-mounted
set_attribute-requires-clause-mounted g c = record { well_formed = c.requires.ready.well_formed.first; exact = c.requires.ready.exact }

pub set_attribute-requires-clause-reached : goal.set_attribute-requires-clause-reached
set_attribute-requires-clause-reached g c = at_reached _ c.requires.ready.well_formed.first c.args.text.now c.args.ino c.requires.at

pub set_attribute-requires-clause-some : goal.set_attribute-requires-clause-some
set_attribute-requires-clause-some g c = at_low _ c.requires.ready.well_formed.first c.args.text.now c.args.ino c.requires.at

pub set_attribute-requires-clause-room : goal.set_attribute-requires-clause-room
set_attribute-requires-clause-room g c = λ enough.
    few_room (in_snapshot_of c.args.parts.now) (g.R.Region.memory c.args.parts.now.region) (sets c.args.ino c.args.number)
    (few_set _ c.requires.ready.well_formed.first c.args.ino c.args.number (at_reached _ c.requires.ready.well_formed.first c.args.text.now c.args.ino c.requires.at) c.requires.number) c.requires.ready.room

pub returns-clause-called : goal.returns-clause-called
returns-clause-called g c =
    let wf = c.requires.ready.well_formed.first in
    let makes = set_makes _ c.args.text.now c.args.ino c.requires.at c.requires.version c.args.number c.args.value in
    carried_or_lacks _ _ _ c.set_attribute.result c.map_err.result c.map_err.ensures.cases
    (on_ok_weaker c.set_attribute.result (λ performs. performs_call (in_snapshot_of c.args.parts.now) _ _ _ (sets c.args.ino c.args.number) _ c.requires.ready.well_formed c.requires.ready.snapshot_blocks makes performs
    (λ after. set_shows _ _ wf c.args.ino c.args.number c.args.value after c.args.text.now c.requires.at)
    (performs_room (in_snapshot_of c.args.parts.now) _ _ _ _ performs
    (few_set _ wf c.args.ino c.args.number (at_reached _ wf c.args.text.now c.args.ino c.requires.at) c.requires.number) c.requires.ready.room))
    c.set_attribute.ensures.performs)
    (on_err_weaker c.set_attribute.result (ap (λ (parts : Parts g.row.R.Denot). g.R.Region.memory parts.region)) c.set_attribute.ensures.same)
    (MatchResult-weaker c.set_attribute.result c.set_attribute.ensures.refused (λ _ nothing. nothing) (lacks_space _ _ (sets c.args.ino c.args.number) makes (in_snapshot_of c.args.parts.now) c.requires.ready.snapshot_blocks))

pub returns-clause-names : goal.returns-clause-names
returns-clause-names g c =
    names_kept (g.R.Region.memory c.args.parts.now.region) (g.R.Region.memory c.set_attribute.new.parts.region) c.set_attribute.result
    (on_ok_weaker c.set_attribute.result (λ performs. set_keeps _ _ c.requires.ready.well_formed.first c.args.ino c.args.number c.args.value performs.effect) c.set_attribute.ensures.performs)
    (on_err_weaker c.set_attribute.result (ap (λ (parts : Parts g.row.R.Denot). g.R.Region.memory parts.region)) c.set_attribute.ensures.same)
