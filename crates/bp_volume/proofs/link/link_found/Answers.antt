use Rattle.std.proofs.Common.{◌∙◌, ap}
use Rattle.std.proofs.lemmas.Result.{MatchResult-weaker, err_from_is_err_and, on_err_weaker}
use Rattle.bp_free.specs.declared.parts.Parts.{Parts}
use Rattle.bp_layout.specs.Need.Change.{enters}
use Rattle.bp_layout.specs.Need.Entrant.{linked}
use Rattle.bp_changes.specs.Sets.{in_snapshot_of}
use Rattle.bp_volume.proofs.AskingLaws.{at_reached}
use Rattle.bp_volume.specs.Carried.CarriesOut.{changed}
use Rattle.bp_volume.proofs.CacheLaws.{cache_thawed, linked_enters, on_ok_was}
use Rattle.bp_volume.proofs.ChangeLaws.{carried_lacks, lacks_space, performs_call}
use Rattle.bp_volume.proofs.FewBlocks.{few_entered}
use Rattle.bp_volume.proofs.FewThawed.{few_room, performs_room}
use Rattle.bp_volume.proofs.SharingLaws.{linking_makes, linking_shows}
use Rattle.bp_volume.proofs.ThawedLaws.{named_shares}
use Rattle.bp_volume.proofs.WalkLaws.{reached_at}
use Rattle.bp_volume.proofs.link.link_found.Goals as goal

pub link_in-requires-clause-mounted : goal.link_in-requires-clause-mounted
link_in-requires-clause-mounted g c = record { well_formed = c.requires.ready.well_formed.first; exact = c.requires.ready.exact }

pub link_in-requires-clause-reached : goal.link_in-requires-clause-reached
link_in-requires-clause-reached g c = reached_at _ c.requires.ready.well_formed.first _ c.args.ends.name.dir c.requires.new.new.parent

pub link_in-requires-clause-there : goal.link_in-requires-clause-there
link_in-requires-clause-there g c = at_reached _ c.requires.ready.well_formed.first c.args.from.now c.args.ends.inode c.requires.at

pub link_in-requires-clause-room : goal.link_in-requires-clause-room
link_in-requires-clause-room g c = λ enough.
    few_room (in_snapshot_of c.args.parts.now) (g.R.Region.memory c.args.parts.now.region) (enters c.args.ends.name.dir linked)
    (few_entered _ c.requires.ready.well_formed.first c.args.ends.name.dir (reached_at _ c.requires.ready.well_formed.first _ c.args.ends.name.dir c.requires.new.new.parent) linked) c.requires.ready.room

pub slot_for-slot-requires-clause-reached : goal.slot_for-slot-requires-clause-reached
slot_for-slot-requires-clause-reached g c = reached_at _ c.requires.ready.well_formed.first _ c.args.ends.name.dir c.requires.new.new.parent

pub returns-in_err-map_err-clause-called : goal.returns-in_err-map_err-clause-called
returns-in_err-map_err-clause-called g c =
    let p = err_from_is_err_and c.from_residual.result c.from_residual.ensures.1 in
    let makes = linking_makes _ c.args.from.now c.args.to.now c.args.ends.inode c.requires.at c.requires.kind c.args.ends.name.dir c.args.ends.name.name.now c.requires.new in
    rw (p.1, p.2) (carried_lacks _ _ _ c.link_in.result _ c.in_err-map_err.ensures.cases
    (on_err_weaker c.link_in.result (ap (λ (parts : Parts g.row.R.Denot). g.R.Region.memory parts.region)) c.link_in.ensures.same)
    (MatchResult-weaker c.link_in.result c.link_in.ensures.refused (λ _ nothing. nothing) (lacks_space _ _ (enters c.args.ends.name.dir linked) makes (in_snapshot_of c.args.parts.now) c.requires.ready.snapshot_blocks)))

pub returns-clause-called : goal.returns-clause-called
returns-clause-called g c =
    let makes = linking_makes _ c.args.from.now c.args.to.now c.args.ends.inode c.requires.at c.requires.kind c.args.ends.name.dir c.args.ends.name.name.now c.requires.new in
    let done = on_ok_was c.link_in.result _ c.in_ok-map_err.ensures.cases c.link_in.ensures.performs in
    changed (performs_call (in_snapshot_of c.args.parts.now) _ _ _ (enters c.args.ends.name.dir linked) _ c.requires.ready.well_formed c.requires.ready.snapshot_blocks makes done
    (λ links. linking_shows _ c.args.from.now c.args.to.now c.args.ends.inode c.requires.at c.requires.kind c.args.ends.name.dir c.args.ends.name.name.now c.requires.new _
    (named_shares _ _ c.requires.ready.well_formed.first c.args.ends.name.dir c.args.ends.name.name.now c.args.ends.inode links))
    (performs_room (in_snapshot_of c.args.parts.now) _ _ _ _ done
    (few_entered _ c.requires.ready.well_formed.first c.args.ends.name.dir (reached_at _ c.requires.ready.well_formed.first _ c.args.ends.name.dir c.requires.new.new.parent) linked) c.requires.ready.room))

pub returns-clause-right : goal.returns-clause-right
returns-clause-right g c =
    let done = on_ok_was c.link_in.result _ c.in_ok-map_err.ensures.cases c.link_in.ensures.performs in
    c.enter.ensures _ _ (cache_thawed _ _ _ c.requires.ready.well_formed.first done.effect.thawed c.requires.right)
    (linked_enters _ _ c.requires.ready.well_formed.first c.args.ends.name.dir (reached_at _ c.requires.ready.well_formed.first _ c.args.ends.name.dir c.requires.new.new.parent) c.requires.new.new.directory
    c.args.ends.name.name.now _
    (record { dir = c.at.ensures.dir; name_is = c.at.ensures.name; slot = c.at.ensures.slot ∙ c.slot_for-slot.ensures }) c.args.ends.inode done.effect)
