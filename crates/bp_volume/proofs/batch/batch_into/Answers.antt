use Rattle.std.proofs.Common.{◌≡◌, ◌≤◌, length, map, refl, ◌∙◌, ap, arith}
use Rattle.std.specs.List.{sum_by}
use Rattle.std.proofs.lemmas.List.{length-map}
use Rattle.std.proofs.lemmas.Result.{MatchResult-weaker, on_err_weaker, on_ok_weaker}
use Rattle.bp_calls.specs.Overwritten.{patches_seen, stretches_of}
use Rattle.bp_changes.specs.Overwrites.{OverwritesFiles}
use Rattle.bp_changes.proofs.Overwrites.{keeps}
use Rattle.bp_free.specs.declared.parts.Parts.{Parts}
use Rattle.bp_layout.specs.Need.Change.{overwrites}
use Rattle.bp_limits.specs.CallLimits.{max_batch}
use Rattle.bp_plain.specs.Seen.{piece_in}
use Rattle.bp_plain.proofs.Carried.{sum_lies}
use Rattle.bp_changes.specs.Sets.{in_snapshot_of}
use Rattle.pm_region.specs.Memory.{current_words}
use Rattle.bp_volume.specs.Carried.CarriesOut.{unchanged}
use Rattle.bp_volume.proofs.BatchLaws.{batch_makes, batch_nothing, patches_bytes, patches_in, patches_many}
use Rattle.bp_volume.proofs.CacheLaws.{files_keep_all, snapshot_thawed, names_kept}
use Rattle.bp_volume.proofs.ChangeLaws.{carried_or_lacks, lacks_space, performs_call}
use Rattle.bp_volume.proofs.FewStretches.{few_overwrites}
use Rattle.bp_volume.proofs.FewThawed.{few_room, performs_room}
use Rattle.bp_volume.proofs.ThawedLaws.{pieces_get}
use Rattle.bp_volume.proofs.batch.batch_into.Goals as goal

pub returns-then-total-eq0-clause-called : goal.returns-then-total-eq0-clause-called
returns-then-total-eq0-clause-called g c =
    let sum = sum_lies c.args.text.now c.args.pieces.now c.requires.lie in
    unchanged refl
    (batch_nothing (current_words (g.R.Region.memory c.args.parts.now.region)) (map (piece_in c.args.text.now) c.args.pieces.now) c.requires.paths (omega (arith, sum, c.requires.total, c.requires.short))
    (patches_seen c.args.patches.now) c.requires.found (omega (arith, sum, c.requires.total, c.if-total-eq0.true)))

pub batch-requires-clause-can : goal.batch-requires-clause-can
batch-requires-clause-can g c =
    let image = current_words (g.R.Region.memory c.args.parts.now.region) in
    let pieces = map (piece_in c.args.text.now) c.args.pieces.now in
    let patches = patches_seen c.args.patches.now in
    let sum = sum_lies c.args.text.now c.args.pieces.now c.requires.lie in
    let bytes = patches_bytes image pieces patches c.requires.found in
    let many : length patches ≡ length c.args.pieces.now = patches_many image pieces patches c.requires.found ∙ length-map c.args.pieces.now (piece_in c.args.text.now) in
    record {
      few = omega (arith, many, c.requires.few);
      each = patches_in image c.requires.ready.well_formed.first pieces patches c.requires.found;
      some = omega (arith, bytes, sum, c.requires.total, c.if-total-eq0.false);
      short = omega (arith, bytes, sum, c.requires.total, c.requires.short);
    }

pub batch-requires-clause-mounted : goal.batch-requires-clause-mounted
batch-requires-clause-mounted g c = record { well_formed = c.requires.ready.well_formed.first; exact = c.requires.ready.exact }

pub batch-requires-clause-room : goal.batch-requires-clause-room
batch-requires-clause-room g c = λ enough.
    let image = current_words (g.R.Region.memory c.args.parts.now.region) in
    let pieces = map (piece_in c.args.text.now) c.args.pieces.now in
    let patches = patches_seen c.args.patches.now in
    let sum = sum_lies c.args.text.now c.args.pieces.now c.requires.lie in
    let bytes = patches_bytes image pieces patches c.requires.found in
    let many : length patches ≡ length c.args.pieces.now = patches_many image pieces patches c.requires.found ∙ length-map c.args.pieces.now (piece_in c.args.text.now) in
    few_room (in_snapshot_of c.args.parts.now) (g.R.Region.memory c.args.parts.now.region) (overwrites (stretches_of patches))
    (few_overwrites image c.requires.ready.well_formed.first patches (patches_in image c.requires.ready.well_formed.first pieces patches c.requires.found) (omega (arith, many, c.requires.few))
    (omega (arith, bytes, sum, c.requires.total, c.requires.short))) c.requires.ready.room

pub returns-clause-called : goal.returns-clause-called
returns-clause-called g c =
    let image = current_words (g.R.Region.memory c.args.parts.now.region) in
    let pieces = map (piece_in c.args.text.now) c.args.pieces.now in
    let patches = patches_seen c.args.patches.now in
    let sum = sum_lies c.args.text.now c.args.pieces.now c.requires.lie in
    let bytes = patches_bytes image pieces patches c.requires.found in
    let many : length patches ≡ length c.args.pieces.now = patches_many image pieces patches c.requires.found ∙ length-map c.args.pieces.now (piece_in c.args.text.now) in
    let short : sum_by (λ piece. length piece.bytes) pieces ≤ max_batch = omega (arith, sum, c.requires.total, c.requires.short) in
    let few = few_overwrites image c.requires.ready.well_formed.first patches (patches_in image c.requires.ready.well_formed.first pieces patches c.requires.found) (omega (arith, many, c.requires.few)) (omega (arith, bytes, short)) in
    let makes = batch_makes image pieces c.requires.paths short patches c.requires.found (omega (arith, sum, c.requires.total, c.if-total-eq0.false)) in
    carried_or_lacks _ _ _ c.batch.result c.map_err.result c.map_err.ensures.cases
    (on_ok_weaker c.batch.result (λ performs. performs_call (in_snapshot_of c.args.parts.now) _ _ _ (overwrites (stretches_of patches)) _ c.requires.ready.well_formed c.requires.ready.snapshot_blocks makes performs
    (λ over tree stands. pieces_get image _ c.requires.ready.well_formed.first pieces patches c.requires.found over tree.now stands.now)
    (performs_room (in_snapshot_of c.args.parts.now) _ _ _ _ performs few c.requires.ready.room))
    c.batch.ensures.performs)
    (on_err_weaker c.batch.result (ap (λ (parts : Parts g.row.R.Denot). g.R.Region.memory parts.region)) c.batch.ensures.same)
    (MatchResult-weaker c.batch.result c.batch.ensures.refused (λ _ nothing. nothing) (lacks_space _ _ (overwrites (stretches_of patches)) makes (in_snapshot_of c.args.parts.now) c.requires.ready.snapshot_blocks))

pub returns-clause-names : goal.returns-clause-names
returns-clause-names g c =
    names_kept (g.R.Region.memory c.args.parts.now.region) (g.R.Region.memory c.batch.new.parts.region) c.batch.result
    (on_ok_weaker c.batch.result (λ performs. snapshot_thawed _ _ (OverwritesFiles (patches_seen c.args.patches.now)) c.requires.ready.well_formed.first
    (λ image sound over. files_keep_all image _ sound (keeps image _ (patches_seen c.args.patches.now) over)) performs.effect) c.batch.ensures.performs)
    (on_err_weaker c.batch.result (ap (λ (parts : Parts g.row.R.Denot). g.R.Region.memory parts.region)) c.batch.ensures.same)
