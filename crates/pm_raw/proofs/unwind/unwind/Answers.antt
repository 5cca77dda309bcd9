use Rattle.std.proofs.Common.{◌∙◌, ◌≤◌, arith, length, refl}
use Rattle.pm_raw.specs.Entries.{events_of}
use Rattle.pm_raw.proofs.EntryLaws.{length_events}
use Rattle.pm_raw.proofs.RowLaws.{log-unwound, log-whole, within-unwound, words-unwound, words-whole}
use Rattle.pm_raw.proofs.unwind.unwind.Goals as goal

pub loop-end-init : goal.loop-end-init
loop-end-init c =
    let undos = events_of c.args.places.now.words c.args.saved.now in
    let many = length_events c.args.places.now.words c.args.saved.now c.requires.each in
    record {
      low = c.requires.fits;
      fits = omega arith;
      each = refl;
      words = words-whole c.args.words.now undos (length c.args.saved.now) (omega (arith, many, c.requires.each));
      log = log-whole c.args.words.now undos (length c.args.saved.now) (omega (arith, many, c.requires.each));
    }

pub unwind_row-end-requires-clause-within : goal.unwind_row-end-requires-clause-within
unwind_row-end-requires-clause-within c =
    let step = c.loop-end.invariant in
    let undos = events_of c.args.places.now.words c.args.saved.now in
    let many = length_events c.args.places.now.words c.args.saved.now c.requires.each in
    within-unwound c.args.words.now c.loop-end.words undos _ c.loop-end.end (omega (arith, step.fits, many, c.requires.each)) step.words step.log c.requires.within

pub loop-end-preserved : goal.loop-end-preserved
loop-end-preserved c =
    let step = c.loop-end.invariant in
    let undos = events_of c.args.places.now.words c.args.saved.now in
    let many = length_events c.args.places.now.words c.args.saved.now c.requires.each in
    let fits : c.loop-end.end ≤ length undos = omega (arith, step.fits, many, c.requires.each) in
    let done = c.unwind_row-end.ensures in
    let from = c.unwind_row-end.result in
    let low : from ≤ c.loop-end.end = omega (arith, done.less) in
    record {
      low = done.low;
      fits = omega (arith, done.less, step.fits);
      each = done.each ∙ step.each;
      words = words-unwound c.args.words.now c.loop-end.words undos _ c.loop-end.end fits step.words step.log from low _ done.words;
      log = log-unwound c.args.words.now c.loop-end.words undos _ c.loop-end.end fits step.words step.log from low _ done.log;
    }
