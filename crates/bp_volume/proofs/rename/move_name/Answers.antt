use Rattle.std.proofs.Common.{ap}
use Rattle.std.proofs.lemmas.Result.{MatchResult-weaker, err_from_is_err_and, on_err_weaker}
use Rattle.pm_region.specs.Memory.{current_words}
use Rattle.bp_free.specs.declared.parts.Parts.{Parts}
use Rattle.bp_rename.specs.CanRename.{change_of}
use Rattle.bp_changes.specs.Sets.{in_snapshot_of}
use Rattle.bp_volume.specs.Carried.CarriesOut.{changed}
use Rattle.bp_volume.proofs.CacheLaws.{cache_thawed, on_ok_was}
use Rattle.bp_volume.proofs.ChangeLaws.{carried_lacks, lacks_space, performs_call}
use Rattle.bp_volume.proofs.FewThawed.{few_room, performs_room}
use Rattle.bp_volume.proofs.MovingLaws.{may_rename, moving_few, moving_makes, moving_shows}
use Rattle.bp_volume.proofs.TargetLaws.{slot_handed}
use Rattle.bp_volume.proofs.ThawedLaws.{path_moves}
use Rattle.bp_volume.proofs.RemovedNames.{name_moves_thawed}
use Rattle.bp_volume.proofs.WalkLaws.{reached_at}
use Rattle.bp_volume.proofs.rename.move_name.Goals as goal

pub rename-requires-clause-can : goal.rename-requires-clause-can
rename-requires-clause-can g c = may_rename _ c.args.from.now c.args.to.now c.args.ends.now c.requires.may c.requires.ready.well_formed.first c.move_of-to_move.result c.move_of-to_move.ensures

pub rename-requires-clause-room : goal.rename-requires-clause-room
rename-requires-clause-room g c = λ enough. few_room (in_snapshot_of c.args.parts.now) (g.R.Region.memory c.args.parts.now.region) (change_of c.move_of-to_move.result) (moving_few _ c.args.from.now c.args.to.now c.args.ends.now c.requires.may c.requires.ready.well_formed.first c.move_of-to_move.result c.move_of-to_move.ensures) c.requires.ready.room

pub rename-requires-clause-empty : goal.rename-requires-clause-empty
rename-requires-clause-empty g c = slot_handed (current_words (g.R.Region.memory c.args.parts.now.region)) c.args.ends.now c.move_of-to_move.result c.move_of-to_move.ensures c.requires.may.found.are.target.empty

pub target_at-target-requires-clause-reached : goal.target_at-target-requires-clause-reached
target_at-target-requires-clause-reached g c = reached_at _ c.requires.ready.well_formed.first _ c.args.ends.now.target.dir c.requires.may.found.are.target.parent

pub returns-in_err-map_err-clause-called : goal.returns-in_err-map_err-clause-called
returns-in_err-map_err-clause-called g c =
    let p = err_from_is_err_and c.from_residual.result c.from_residual.ensures.1 in
    let makes = moving_makes _ c.args.from.now c.args.to.now c.args.ends.now c.requires.may c.requires.ready.well_formed.first c.move_of-to_move.result c.move_of-to_move.ensures in
    rw (p.1, p.2) (carried_lacks _ _ _ c.rename.result _ c.in_err-map_err.ensures.cases
    (on_err_weaker c.rename.result (ap (λ (parts : Parts g.row.R.Denot). g.R.Region.memory parts.region)) c.rename.ensures.same)
    (MatchResult-weaker c.rename.result c.rename.ensures.refused (λ _ nothing. nothing)
    (lacks_space _ _ (change_of c.move_of-to_move.result) makes (in_snapshot_of c.args.parts.now) c.requires.ready.snapshot_blocks)))

pub returns-clause-called : goal.returns-clause-called
returns-clause-called g c =
    let makes = moving_makes _ c.args.from.now c.args.to.now c.args.ends.now c.requires.may c.requires.ready.well_formed.first c.move_of-to_move.result c.move_of-to_move.ensures in
    let can = may_rename _ c.args.from.now c.args.to.now c.args.ends.now c.requires.may c.requires.ready.well_formed.first c.move_of-to_move.result c.move_of-to_move.ensures in
    let done = on_ok_was c.rename.result _ c.in_ok-map_err.ensures.cases c.rename.ensures.performs in
    changed (performs_call (in_snapshot_of c.args.parts.now) _ _ _ (change_of c.move_of-to_move.result) _ c.requires.ready.well_formed c.requires.ready.snapshot_blocks makes done
    (λ renames. moving_shows _ c.args.from.now c.args.to.now c.args.ends.now c.requires.may c.requires.ready.well_formed.first c.move_of-to_move.result c.move_of-to_move.ensures _
    (path_moves _ _ c.requires.ready.well_formed.first c.move_of-to_move.result can renames))
    (performs_room (in_snapshot_of c.args.parts.now) _ _ _ _ done (moving_few _ c.args.from.now c.args.to.now c.args.ends.now c.requires.may c.requires.ready.well_formed.first c.move_of-to_move.result c.move_of-to_move.ensures) c.requires.ready.room))

pub returns-clause-right : goal.returns-clause-right
returns-clause-right g c =
    let can = may_rename _ c.args.from.now c.args.to.now c.args.ends.now c.requires.may c.requires.ready.well_formed.first c.move_of-to_move.result c.move_of-to_move.ensures in
    let done = on_ok_was c.rename.result _ c.in_ok-map_err.ensures.cases c.rename.ensures.performs in
    c.report_move.ensures _ _ (cache_thawed _ _ _ c.requires.ready.well_formed.first done.effect.thawed c.requires.right)
    (name_moves_thawed _ _ c.args.ends.now c.requires.may.found.are.named c.move_of-to_move.result c.move_of-to_move.ensures can _ (record { dir = c.at.ensures.dir; name = c.at.ensures.name; slot = c.at.ensures.slot })
    _ c.target_at-target.ensures done.effect)
