use Rattle.std.proofs.Common.{◌+◌, ◌∙◌, ap, arith, inr}
use Rattle.std.proofs.lemmas.List.{length-set}
use Rattle.bp_cow.specs.Touched.{run_word}
use Rattle.bp_cow.proofs.SlotLaws.{lays_none, lays_one_more}
use Rattle.bp_cow.proofs.lay.lay_slots.Goals as goal

pub loop-slot-init : goal.loop-slot-init
loop-slot-init c = record { size = omega arith; begun = omega arith; laid = lays_none c.args.run.now c.args.first c.args.from c.args.words.now }

pub loop-slot-preserved : goal.loop-slot-preserved
loop-slot-preserved c =
    let before = c.loop-slot.invariant in
    let at = c.loop-slot.slot in
    record {
      size = length-set c.loop-slot.words at c.lay.result ∙ before.size;
      begun = omega (arith, before.begun);
      laid = lays_one_more c.args.run.now c.args.first c.args.from at c.lay.result c.args.words.now c.loop-slot.words (omega (arith, before.size, c.loop-slot-test.true, c.requires.to)) before.begun
          (c.lay.ensures ∙ ap (run_word c.args.run.now (c.args.first + at)) (before.laid.rest at (inr (omega arith)))) before.laid;
    }
