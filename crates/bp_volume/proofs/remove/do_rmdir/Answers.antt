use Rattle.std.proofs.Common.{ap, refl}
use Rattle.std.proofs.lemmas.Result.{MatchResult-weaker, err_from_is_err_and, on_err_weaker}
use Rattle.bp_free.specs.declared.parts.Parts.{Parts}
use Rattle.bp_layout.specs.Need.Change.{leaves}
use Rattle.bp_changes.specs.Sets.{in_snapshot_of}
use Rattle.bp_volume.specs.Carried.CarriesOut.{changed, unchanged}
use Rattle.bp_volume.proofs.CacheLaws.{cache_refused, cache_thawed, on_ok_was}
use Rattle.bp_volume.proofs.ChangeLaws.{carried_lacks, lacks_space, performs_call}
use Rattle.bp_volume.proofs.FewThawed.{few_room, performs_room}
use Rattle.bp_volume.proofs.LeavingLaws.{directory_leaves, leaves_few, name_lost, rmdir_makes}
use Rattle.bp_volume.proofs.ThawedLaws.{removed_loses}
use Rattle.bp_volume.proofs.RemovedNames.{name_leaves}
use Rattle.bp_volume.proofs.StepLaws.{refused_steps}
use Rattle.bp_volume.proofs.remove.do_rmdir.Goals as goal

pub empty_entry-requires-clause-well_formed : goal.empty_entry-requires-clause-well_formed
empty_entry-requires-clause-well_formed g c = c.requires.ready.well_formed.first

pub remove-requires-clause-mounted : goal.remove-requires-clause-mounted
remove-requires-clause-mounted g c = record { well_formed = c.requires.ready.well_formed.first; exact = c.requires.ready.exact }

pub remove-requires-clause-can : goal.remove-requires-clause-can
remove-requires-clause-can g c = directory_leaves _ c.args.text.now _ _ _ c.in_ok-empty.ensures.found c.in_ok-empty.ensures.empty

pub remove-requires-clause-room : goal.remove-requires-clause-room
remove-requires-clause-room g c = λ enough.
    let can = directory_leaves _ c.args.text.now _ _ _ c.in_ok-empty.ensures.found c.in_ok-empty.ensures.empty in
    few_room (in_snapshot_of c.args.parts.now) (g.R.Region.memory c.args.parts.now.region) (leaves c.in_ok-empty.empty.dir c.in_ok-empty.empty.slot) (leaves_few _ c.args.text.now _ _ _ c.in_ok-empty.ensures.found c.requires.ready.well_formed.first can) c.requires.ready.room

pub returns-in_err-map_err-clause-called : goal.returns-in_err-map_err-clause-called
returns-in_err-map_err-clause-called g c =
    let p = err_from_is_err_and c.from_residual-in_err-map_err.result c.from_residual-in_err-map_err.ensures.1 in
    let makes = rmdir_makes _ c.args.text.now _ _ _ c.in_ok-empty.ensures.found c.in_ok-empty.ensures.directory c.in_ok-empty.ensures.empty in
    rw (p.1, p.2) (carried_lacks _ _ _ c.remove.result _ c.in_err-map_err.ensures.cases
    (on_err_weaker c.remove.result (ap (λ (parts : Parts g.row.R.Denot). g.R.Region.memory parts.region)) c.remove.ensures.same)
    (MatchResult-weaker c.remove.result c.remove.ensures.refused (λ _ nothing. nothing) (lacks_space _ _ (leaves c.in_ok-empty.empty.dir c.in_ok-empty.empty.slot) makes (in_snapshot_of c.args.parts.now) c.requires.ready.snapshot_blocks)))

pub returns-clause-called : goal.returns-clause-called
returns-clause-called g c =
    let can = directory_leaves _ c.args.text.now _ _ _ c.in_ok-empty.ensures.found c.in_ok-empty.ensures.empty in
    let done = on_ok_was c.remove.result _ c.in_ok-map_err.ensures.cases c.remove.ensures.performs in
    changed (performs_call (in_snapshot_of c.args.parts.now) _ _ _ (leaves c.in_ok-empty.empty.dir c.in_ok-empty.empty.slot) _ c.requires.ready.well_formed c.requires.ready.snapshot_blocks
    (rmdir_makes _ c.args.text.now _ _ _ c.in_ok-empty.ensures.found c.in_ok-empty.ensures.directory c.in_ok-empty.ensures.empty) done
    (λ removes. name_lost _ c.args.text.now _ _ _ c.in_ok-empty.ensures.found _ (removed_loses _ _ c.requires.ready.well_formed.first _ _ can removes))
    (performs_room (in_snapshot_of c.args.parts.now) _ _ _ _ done (leaves_few _ c.args.text.now _ _ _ c.in_ok-empty.ensures.found c.requires.ready.well_formed.first can) c.requires.ready.room))

pub returns-in_err-empty-clause-called : goal.returns-in_err-empty-clause-called
returns-in_err-empty-clause-called g c =
    let p = err_from_is_err_and c.from_residual.result c.from_residual.ensures.1 in
    rw (p.1, p.2) (unchanged refl (λ tree stands. refused_steps _ tree _ _ (c.in_err-empty.ensures.refused tree stands)))

pub returns-clause-right : goal.returns-clause-right
returns-clause-right g c =
    let done = on_ok_was c.remove.result _ c.in_ok-map_err.ensures.cases c.remove.ensures.performs in
    let known = cache_thawed _ _ _ c.requires.ready.well_formed.first done.effect.thawed c.empty_entry.ensures.right in
    c.drop_directory.ensures _
    (c.leave.ensures _ _ known
    (name_leaves _ _ c.requires.ready.well_formed.first c.in_ok-empty.empty _ (record { dir = c.at.ensures.dir; name = c.at.ensures.name; slot = c.at.ensures.slot }) (directory_leaves _ c.args.text.now _ _ _ c.in_ok-empty.ensures.found c.in_ok-empty.ensures.empty) c.in_ok-empty.ensures.named done.effect))

pub returns-in_err-map_err-clause-right : goal.returns-in_err-map_err-clause-right
returns-in_err-map_err-clause-right g c =
    cache_refused (g.R.Region.memory c.args.parts.now.region) (g.R.Region.memory c.remove.new.parts.region) _ c.remove.result _ c.in_err-map_err.ensures.cases
    (on_err_weaker c.remove.result (ap (λ (parts : Parts g.row.R.Denot). g.R.Region.memory parts.region)) c.remove.ensures.same) c.empty_entry.ensures.right
