use Rattle.std.proofs.Common.{◌≡◌, ◌≢◌, ◌∙◌, refl, ap, arith}
use Rattle.std.proofs.lemmas.Result.{MatchResult-weaker, on_err_weaker, on_ok_weaker}
use Rattle.bp_cache.proofs.EffectLaws.{file_keeps_all}
use Rattle.bp_calls.specs.Resized.{ResizesFile}
use Rattle.bp_free.specs.declared.parts.Parts.{Parts}
use Rattle.bp_layout.specs.Formatted.{version_of}
use Rattle.bp_layout.specs.Inode.{size_of}
use Rattle.bp_layout.specs.Need.Change.{resizes}
use Rattle.bp_limits.specs.CallLimits.{greatest_size}
use Rattle.bp_changes.specs.Sets.{in_snapshot_of}
use Rattle.pm_region.specs.Memory.{current_words}
use Rattle.bp_volume.specs.Carried.CarriesOut.{unchanged}
use Rattle.bp_volume.proofs.AskingLaws.{at_reached}
use Rattle.bp_volume.proofs.CacheLaws.{all_kept, snapshot_thawed, names_kept}
use Rattle.bp_volume.proofs.ChangeLaws.{carried_or_lacks, lacks_space, performs_call}
use Rattle.bp_volume.proofs.FewBlocks.{few_resized}
use Rattle.bp_volume.proofs.FewThawed.{few_room, performs_room}
use Rattle.bp_volume.proofs.FileLaws.{truncate_makes, truncate_nothing, truncate_shows, truncate_too_big}
use Rattle.bp_volume.proofs.ThawedLaws.{sized_gets}
use Rattle.bp_volume.proofs.resize.resize.Goals as goal

pub truncate-requires-clause-mounted : goal.truncate-requires-clause-mounted
truncate-requires-clause-mounted g c = record { well_formed = c.requires.ready.well_formed.first; exact = c.requires.ready.exact }

pub truncate-requires-clause-reached : goal.truncate-requires-clause-reached
truncate-requires-clause-reached g c = at_reached _ c.requires.ready.well_formed.first c.args.text.now c.args.file.ino c.requires.at

pub truncate-requires-clause-room : goal.truncate-requires-clause-room
truncate-requires-clause-room g c = λ enough.
    few_room (in_snapshot_of c.args.parts.now) (g.R.Region.memory c.args.parts.now.region) (resizes c.args.file.ino c.args.size)
    (few_resized _ c.requires.ready.well_formed.first c.args.file.ino (at_reached _ c.requires.ready.well_formed.first c.args.text.now c.args.file.ino c.requires.at) c.args.size) c.requires.ready.room

pub returns-then-size-greatest_size-clause-called : goal.returns-then-size-greatest_size-clause-called
returns-then-size-greatest_size-clause-called g c =
    let limit : c.greatest_size.result ≡ greatest_size (version_of (current_words (g.R.Region.memory c.args.parts.now.region))) = c.greatest_size.ensures.size ∙ ap greatest_size c.version.ensures in
    unchanged refl (truncate_too_big _ c.args.text.now c.args.file.ino c.requires.at c.requires.kind c.args.size (omega (arith, limit)))

pub returns-then-size-file-clause-called : goal.returns-then-size-file-clause-called
returns-then-size-file-clause-called g c =
    let limit : c.greatest_size.result ≡ greatest_size (version_of (current_words (g.R.Region.memory c.args.parts.now.region))) = c.greatest_size.ensures.size ∙ ap greatest_size c.version.ensures in
    unchanged refl (truncate_nothing _ c.args.text.now c.args.file.ino c.requires.at c.requires.kind c.args.size (omega (arith, limit)) (omega (arith, c.requires.size)))

pub truncate-requires-clause-fits : goal.truncate-requires-clause-fits
truncate-requires-clause-fits g c =
    let limit : c.greatest_size.result ≡ greatest_size (version_of (current_words (g.R.Region.memory c.args.parts.now.region))) = c.greatest_size.ensures.size ∙ ap greatest_size c.version.ensures in
    omega (arith, limit)

pub returns-clause-called : goal.returns-clause-called
returns-clause-called g c =
    let other : c.args.size ≢ size_of (current_words (g.R.Region.memory c.args.parts.now.region)) c.args.file.ino = omega (arith, c.requires.size) in
    let limit : c.greatest_size.result ≡ greatest_size (version_of (current_words (g.R.Region.memory c.args.parts.now.region))) = c.greatest_size.ensures.size ∙ ap greatest_size c.version.ensures in
    let makes = truncate_makes _ c.args.text.now c.args.file.ino c.requires.at c.requires.kind c.args.size (omega (arith, limit)) other in
    carried_or_lacks _ _ _ c.truncate.result c.map_err.result c.map_err.ensures.cases
    (on_ok_weaker c.truncate.result (λ performs. performs_call (in_snapshot_of c.args.parts.now) _ _ _ (resizes c.args.file.ino c.args.size) _ c.requires.ready.well_formed c.requires.ready.snapshot_blocks makes performs
    (λ resizes_file. truncate_shows _ c.args.text.now c.args.file.ino c.requires.at c.requires.kind c.args.size _ (sized_gets _ _ c.requires.ready.well_formed.first c.args.file.ino c.args.size resizes_file))
    (performs_room (in_snapshot_of c.args.parts.now) _ _ _ _ performs
    (few_resized _ c.requires.ready.well_formed.first c.args.file.ino (at_reached _ c.requires.ready.well_formed.first c.args.text.now c.args.file.ino c.requires.at) c.args.size) c.requires.ready.room))
    c.truncate.ensures.performs)
    (on_err_weaker c.truncate.result (ap (λ (parts : Parts g.row.R.Denot). g.R.Region.memory parts.region)) c.truncate.ensures.same)
    (MatchResult-weaker c.truncate.result c.truncate.ensures.refused (λ _ nothing. nothing) (lacks_space _ _ (resizes c.args.file.ino c.args.size) makes (in_snapshot_of c.args.parts.now) c.requires.ready.snapshot_blocks))

pub returns-clause-names : goal.returns-clause-names
returns-clause-names g c =
    names_kept (g.R.Region.memory c.args.parts.now.region) (g.R.Region.memory c.truncate.new.parts.region) c.truncate.result
    (on_ok_weaker c.truncate.result (λ performs. snapshot_thawed _ _ (ResizesFile c.args.file.ino c.args.size) c.requires.ready.well_formed.first
    (λ image sound resized. file_keeps_all image _ sound c.args.file.ino resized.changes) performs.effect) c.truncate.ensures.performs)
    (on_err_weaker c.truncate.result (ap (λ (parts : Parts g.row.R.Denot). g.R.Region.memory parts.region)) c.truncate.ensures.same)

pub returns-then-size-greatest_size-clause-names : goal.returns-then-size-greatest_size-clause-names
returns-then-size-greatest_size-clause-names g c = all_kept _

pub returns-then-size-file-clause-names : goal.returns-then-size-file-clause-names
returns-then-size-file-clause-names g c = all_kept _
