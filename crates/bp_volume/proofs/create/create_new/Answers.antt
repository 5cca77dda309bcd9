use Rattle.std.proofs.Common.{◌∙◌, ap}
use Rattle.std.proofs.lemmas.Result.{MatchResult-weaker, err_from_is_err_and, on_err_weaker}
use Rattle.bp_changes.specs.Entrant.{entrant_of}
use Rattle.bp_calls.proofs.Refusals.{reports}
use Rattle.bp_free.specs.declared.parts.Parts.{Parts}
use Rattle.bp_layout.specs.Need.Change.{enters as change_of}
use Rattle.bp_changes.specs.Sets.{in_snapshot_of}
use Rattle.bp_volume.specs.Carried.CarriesOut.{changed}
use Rattle.bp_volume.proofs.CacheLaws.{cache_thawed, created_enters, on_ok_was}
use Rattle.bp_volume.proofs.ChangeLaws.{carried_lacks, lacks_space, performs_call}
use Rattle.bp_volume.proofs.CreateLaws.{making_makes, making_shows}
use Rattle.bp_volume.proofs.FewBlocks.{few_entered}
use Rattle.bp_volume.proofs.FewThawed.{few_room, performs_room}
use Rattle.bp_volume.proofs.ThawedLaws.{created_gains}
use Rattle.bp_volume.proofs.WalkLaws.{reached_at}
use Rattle.bp_volume.proofs.create.create_new.Goals as goal

pub create_in-requires-clause-mounted : goal.create_in-requires-clause-mounted
create_in-requires-clause-mounted g c = record { well_formed = c.requires.ready.well_formed.first; exact = c.requires.ready.exact }

pub create_in-requires-clause-reached : goal.create_in-requires-clause-reached
create_in-requires-clause-reached g c = reached_at _ c.requires.ready.well_formed.first _ c.args.new.dir c.requires.new.new.parent

pub create_in-requires-clause-room : goal.create_in-requires-clause-room
create_in-requires-clause-room g c = λ free least enough.
    few_room (in_snapshot_of c.args.parts.now) (g.R.Region.memory c.args.parts.now.region) (change_of c.args.new.dir (entrant_of free))
    (few_entered _ c.requires.ready.well_formed.first c.args.new.dir (reached_at _ c.requires.ready.well_formed.first _ c.args.new.dir c.requires.new.new.parent) (entrant_of free)) c.requires.ready.room

pub slot_for-slot-requires-clause-reached : goal.slot_for-slot-requires-clause-reached
slot_for-slot-requires-clause-reached g c = reached_at _ c.requires.ready.well_formed.first _ c.args.new.dir c.requires.new.new.parent

pub returns-in_err-map_err-clause-called : goal.returns-in_err-map_err-clause-called
returns-in_err-map_err-clause-called g c =
    let p = err_from_is_err_and c.from_residual.result c.from_residual.ensures.1 in
    let reported = reports _ _ _ c.requires.ready.exact.sets in
    let makes = making_makes _ c.args.text.now c.args.new.dir c.args.new.name.now c.requires.new reported.0 reported.1 c.args.kind in
    rw (p.1, p.2) (carried_lacks _ _ _ c.create_in.result _ c.in_err-map_err.ensures.cases
    (on_err_weaker c.create_in.result (ap (λ (parts : Parts g.row.R.Denot). g.R.Region.memory parts.region)) c.create_in.ensures.same)
    (MatchResult-weaker c.create_in.result c.create_in.ensures.refused (λ _ nothing. nothing)
    (λ lacks refused. lacks_space _ _ (change_of c.args.new.dir (entrant_of reported.0)) makes (in_snapshot_of c.args.parts.now) c.requires.ready.snapshot_blocks lacks (refused reported.0 reported.1))))

pub returns-clause-called : goal.returns-clause-called
returns-clause-called g c =
    let reported = reports _ _ _ c.requires.ready.exact.sets in
    let makes = making_makes _ c.args.text.now c.args.new.dir c.args.new.name.now c.requires.new reported.0 reported.1 c.args.kind in
    let done = on_ok_was c.create_in.result _ c.in_ok-map_err.ensures.cases c.create_in.ensures.performs reported.0 reported.1 in
    changed (performs_call (in_snapshot_of c.args.parts.now) _ _ _ (change_of c.args.new.dir (entrant_of reported.0)) _ c.requires.ready.well_formed c.requires.ready.snapshot_blocks makes done
    (λ enters. making_shows _ c.args.text.now c.args.new.dir c.args.new.name.now c.requires.new c.args.kind _ (created_gains _ _ c.requires.ready.well_formed.first c.args.new.dir c.args.new.name.now c.args.kind enters))
    (performs_room (in_snapshot_of c.args.parts.now) _ _ _ _ done
    (few_entered _ c.requires.ready.well_formed.first c.args.new.dir (reached_at _ c.requires.ready.well_formed.first _ c.args.new.dir c.requires.new.new.parent) (entrant_of reported.0)) c.requires.ready.room))

pub returns-clause-right : goal.returns-clause-right
returns-clause-right g c =
    let reported = reports _ _ _ c.requires.ready.exact.sets in
    let done = on_ok_was c.create_in.result _ c.in_ok-map_err.ensures.cases c.create_in.ensures.performs reported.0 reported.1 in
    c.enter.ensures _ _ (cache_thawed _ _ _ c.requires.ready.well_formed.first done.effect.thawed c.requires.right)
    (created_enters _ _ c.requires.ready.well_formed.first c.args.new.dir (reached_at _ c.requires.ready.well_formed.first _ c.args.new.dir c.requires.new.new.parent) c.requires.new.new.directory c.args.new.name.now _
    (record { dir = c.at.ensures.dir; name_is = c.at.ensures.name; slot = c.at.ensures.slot ∙ c.slot_for-slot.ensures }) c.args.kind done.effect)
