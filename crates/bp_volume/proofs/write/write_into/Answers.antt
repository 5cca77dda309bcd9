use Rattle.std.proofs.Common.{◌≡◌, ◌∙◌, ◌≢◌, length, refl, sym, ap, arith}
use Rattle.std.proofs.lemmas.Bool.{eqb-true, eqb-false}
use Rattle.std.proofs.lemmas.Result.{MatchResult-weaker, on_err_weaker, on_ok_weaker}
use Rattle.bp_cache.proofs.EffectLaws.{file_keeps_all}
use Rattle.bp_calls.specs.WritesFile.{WritesFile}
use Rattle.bp_free.specs.declared.parts.Parts.{Parts}
use Rattle.bp_layout.specs.Formatted.{version_of}
use Rattle.bp_layout.specs.Need.Change.{writes}
use Rattle.bp_limits.specs.CallLimits.{greatest_size}
use Rattle.bp_changes.specs.Sets.{in_snapshot_of}
use Rattle.pm_region.specs.Memory.{current_words}
use Rattle.bp_volume.specs.Carried.CarriesOut.{unchanged}
use Rattle.bp_volume.proofs.AskingLaws.{at_low, at_reached}
use Rattle.bp_volume.proofs.CacheLaws.{all_kept, snapshot_thawed, names_kept}
use Rattle.bp_volume.proofs.ChangeLaws.{carried_or_lacks, lacks_space, performs_call}
use Rattle.bp_volume.proofs.FewBlocks.{few_writes}
use Rattle.bp_volume.proofs.FewThawed.{few_room, performs_room}
use Rattle.bp_volume.proofs.FileLaws.{short_enough, short_of_size, write_makes, write_nothing, write_shows, write_too_big}
use Rattle.bp_volume.proofs.ThawedLaws.{bytes_gets}
use Rattle.bp_volume.proofs.write.write_into.Goals as goal

pub returns-then-is_empty-clause-called : goal.returns-then-is_empty-clause-called
returns-then-is_empty-clause-called g c =
    unchanged refl (write_nothing _ c.args.text.now c.args.ino c.requires.at c.requires.kind c.args.offset c.args.bytes.now c.requires.short (omega (arith, eqb-true _ _ (sym c.is_empty.ensures ∙ c.if-is_empty.true))))

pub returns-then-offset-greatest_size-clause-called : goal.returns-then-offset-greatest_size-clause-called
returns-then-offset-greatest_size-clause-called g c =
    let some : length c.args.bytes.now ≢ 0 = eqb-false _ _ (sym c.is_empty.ensures ∙ c.if-is_empty.false) in
    let limit : c.greatest_size.result ≡ greatest_size (version_of (current_words (g.R.Region.memory c.args.parts.now.region))) = c.greatest_size.ensures.size ∙ ap greatest_size c.version.ensures in
    unchanged refl (write_too_big _ c.args.text.now c.args.ino c.requires.at c.requires.kind c.args.offset c.args.bytes.now c.requires.short (omega (arith, some)) (omega (arith, limit)))

pub write-requires-clause-can : goal.write-requires-clause-can
write-requires-clause-can g c =
    let some : length c.args.bytes.now ≢ 0 = eqb-false _ _ (sym c.is_empty.ensures ∙ c.if-is_empty.false) in
    let limit : c.greatest_size.result ≡ greatest_size (version_of (current_words (g.R.Region.memory c.args.parts.now.region))) = c.greatest_size.ensures.size ∙ ap greatest_size c.version.ensures in
    record {
      reached = at_reached _ c.requires.ready.well_formed.first c.args.text.now c.args.ino c.requires.at;
      file = c.requires.kind;
      some = omega (arith, some);
      short = short_enough _ _ c.requires.short;
      fits = omega (arith, limit, short_of_size _ _ c.requires.short);
    }

pub write-requires-clause-mounted : goal.write-requires-clause-mounted
write-requires-clause-mounted g c = record { well_formed = c.requires.ready.well_formed.first; exact = c.requires.ready.exact }

pub write-requires-clause-room : goal.write-requires-clause-room
write-requires-clause-room g c = λ enough.
    few_room (in_snapshot_of c.args.parts.now) (g.R.Region.memory c.args.parts.now.region) (writes c.args.ino c.args.offset (length c.args.bytes.now))
    (few_writes _ c.requires.ready.well_formed.first c.args.ino (at_low _ c.requires.ready.well_formed.first c.args.text.now c.args.ino c.requires.at) (at_reached _ c.requires.ready.well_formed.first c.args.text.now c.args.ino c.requires.at) c.args.offset (length c.args.bytes.now) (short_enough _ _ c.requires.short)) c.requires.ready.room

pub returns-clause-called : goal.returns-clause-called
returns-clause-called g c =
    let some : length c.args.bytes.now ≢ 0 = eqb-false _ _ (sym c.is_empty.ensures ∙ c.if-is_empty.false) in
    let limit : c.greatest_size.result ≡ greatest_size (version_of (current_words (g.R.Region.memory c.args.parts.now.region))) = c.greatest_size.ensures.size ∙ ap greatest_size c.version.ensures in
    let makes = write_makes _ c.args.text.now c.args.ino c.requires.at c.requires.kind c.args.offset c.args.bytes.now c.requires.short (omega (arith, some)) (omega (arith, limit, short_of_size _ _ c.requires.short)) in
    carried_or_lacks _ _ _ c.write.result c.map_err.result c.map_err.ensures.cases
    (on_ok_weaker c.write.result (λ performs. performs_call (in_snapshot_of c.args.parts.now) _ _ _ (writes c.args.ino c.args.offset (length c.args.bytes.now)) _ c.requires.ready.well_formed c.requires.ready.snapshot_blocks makes performs
    (λ writes_file. write_shows _ c.args.text.now c.args.ino c.requires.at c.requires.kind c.args.offset c.args.bytes.now _ (bytes_gets _ _ c.requires.ready.well_formed.first c.args.ino c.args.offset c.args.bytes.now writes_file))
    (performs_room (in_snapshot_of c.args.parts.now) _ _ _ _ performs
    (few_writes _ c.requires.ready.well_formed.first c.args.ino (at_low _ c.requires.ready.well_formed.first c.args.text.now c.args.ino c.requires.at) (at_reached _ c.requires.ready.well_formed.first c.args.text.now c.args.ino c.requires.at) c.args.offset (length c.args.bytes.now) (short_enough _ _ c.requires.short)) c.requires.ready.room))
    c.write.ensures.performs)
    (on_err_weaker c.write.result (ap (λ (parts : Parts g.row.R.Denot). g.R.Region.memory parts.region)) c.write.ensures.same)
    (MatchResult-weaker c.write.result c.write.ensures.refused (λ _ nothing. nothing) (lacks_space _ _ (writes c.args.ino c.args.offset (length c.args.bytes.now)) makes (in_snapshot_of c.args.parts.now) c.requires.ready.snapshot_blocks))

pub returns-clause-names : goal.returns-clause-names
returns-clause-names g c =
    names_kept (g.R.Region.memory c.args.parts.now.region) (g.R.Region.memory c.write.new.parts.region) c.write.result
    (on_ok_weaker c.write.result (λ performs. snapshot_thawed _ _ (WritesFile c.args.ino c.args.offset c.args.bytes.now) c.requires.ready.well_formed.first
    (λ image sound written. file_keeps_all image _ sound c.args.ino written.changes) performs.effect) c.write.ensures.performs)
    (on_err_weaker c.write.result (ap (λ (parts : Parts g.row.R.Denot). g.R.Region.memory parts.region)) c.write.ensures.same)

pub returns-then-is_empty-clause-names : goal.returns-then-is_empty-clause-names
returns-then-is_empty-clause-names g c = all_kept _

pub returns-then-offset-greatest_size-clause-names : goal.returns-then-offset-greatest_size-clause-names
returns-then-offset-greatest_size-clause-names g c = all_kept _
