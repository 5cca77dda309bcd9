use Rattle.std.proofs.Common.{arith, rules, ◌∙◌, ◌≡◌, ◌*◌, ◌/◌, length, length-take, take}
use Rattle.std.proofs.lemmas.Result.{err_from_is_err_and}
use Rattle.pm_region.specs.Memory.{current_words}
use Rattle.bp_layout.specs.Bytes.{image_bytes}
use Rattle.bp_session.proofs.SavingLaws.{are_sizes, becomes_reported, known_partly, known_written, stays_attached, clean_run}
use Rattle.bp_session.proofs.OthersLaws.{others_then}
use Rattle.bp_session.proofs.save.write_changed.Goals as goal

pub loop-first-preserved : goal.loop-first-preserved
loop-first-preserved g c =
    let here = c.loop-first.invariant in
    let run = c.dirty_run-run.result in
    let count : length (take (4096 * run) c.loop-first.bytes) / 4096 ≡ run = omega (arith, c.dirty_run-run.ensures.most, length-take (4096 * run) c.loop-first.bytes) in
    record {
      within = c.dirty_run-run.ensures.fits;
      attached = stays_attached _ _ _ here.attached c.write_blocks.ensures.attached;
      bytes = λ name was file.
          let is = here.attached.attached name ∙ file.attached in
          let sizes = are_sizes was (g.R.Region.memory c.args.region.now) (g.F.Files.view c.args.files.now).blocks file.size c.requires.size in
          known_written c.args.flags.now was (image_bytes (current_words (g.R.Region.memory c.args.region.now))) c.read_blocks.new.into c.loop-first.first run
          (omega (arith, sizes.whole, c.requires.size, c.dirty_run-run.ensures.fits)) sizes.same (rw count at c.read_blocks.ensures) c.dirty_run-run.ensures.dirtied _ _
          (here.bytes name was file) (c.in_ok-write_blocks.ensures.written name is);
      kept = λ none covers. absurd (clean_run c.args.flags.now c.loop-first.first run none (omega (arith, covers, c.loop-first-test.true)) c.if-run-eq0.false c.dirty_run-run.ensures.dirtied);
      others = others_then (g.F.Files.view c.args.files.now) (g.F.Files.view c.loop-first.files) (g.F.Files.view c.write_blocks.new.self) here.attached here.others c.write_blocks.ensures.others;
      reported = λ name was file.
          becomes_reported _ _ _ c.args.flags.now c.loop-first.first was (image_bytes (current_words (g.R.Region.memory c.args.region.now))) (here.bytes name was file) (c.in_ok-write_blocks.ensures.written name (here.attached.attached name ∙ file.attached)) ∙ here.reported name was file;
      faults = search rules;
    }

pub returns-in_err-write_blocks-clause-partly : goal.returns-in_err-write_blocks-clause-partly
returns-in_err-write_blocks-clause-partly g c =
    let p = err_from_is_err_and c.from_residual.result c.from_residual.ensures.1 in rw p.1
    (λ name was file.
    let here = c.loop-first.invariant in
    let run = c.dirty_run-run.result in
    let count : length (take (4096 * run) c.loop-first.bytes) / 4096 ≡ run = omega (arith, c.dirty_run-run.ensures.most, length-take (4096 * run) c.loop-first.bytes) in
    let sizes = are_sizes was (g.R.Region.memory c.args.region.now) (g.F.Files.view c.args.files.now).blocks file.size c.requires.size in
    known_partly c.args.flags.now was (image_bytes (current_words (g.R.Region.memory c.args.region.now))) c.read_blocks.new.into c.loop-first.first run
    (omega (arith, sizes.whole, c.requires.size, c.dirty_run-run.ensures.fits)) sizes.same (rw count at c.read_blocks.ensures) c.dirty_run-run.ensures.dirtied _ _
    (here.bytes name was file) (c.in_err-write_blocks.ensures.failed name (here.attached.attached name ∙ file.attached)))
