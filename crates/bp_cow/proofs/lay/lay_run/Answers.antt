use Rattle.std.proofs.Common.{◌+◌, ◌∙◌, sym, arith, inl, inr}
use Rattle.std.proofs.lemmas.Bool.{cases_lt}
use Rattle.bp_cow.proofs.RunLaws.{run_end-few, run_word-outside}
use Rattle.bp_cow.proofs.SlotLaws.{lays_then}
use Rattle.bp_cow.proofs.lay.lay_run.Goals as goal

pub overflow_add-end : goal.overflow_add-end
overflow_add-end c = omega (arith, run_end-few c.args.run.now c.requires.run)

pub returns : goal.returns
returns c slot low =
    let run = c.args.run.now in
    let first = c.args.first in
    let from = c.slot_in-from.result in
    let start = c.slot_in-start.result in
    let stop = c.max-stop.result in
    let to = c.max-to.result in
    let early = lays_then run first from start stop c.args.words.now c.lay_slots.new.words c.set_slots.new.words (omega arith) (omega arith) c.lay_slots.ensures c.set_slots.ensures in
    let all = lays_then run first from stop to c.args.words.now c.set_slots.new.words c.lay_slots-2.new.words (omega arith) (omega arith) early c.lay_slots-2.ensures in
    elim (cases_lt slot from) [
      | inl before ↦ all.rest slot (inl before) ∙ sym (run_word-outside run (first + slot) _ (inl (omega (arith, before))))
      | inr begun ↦ elim (cases_lt slot to) [
        | inl inside ↦ all.laid slot begun inside
        | inr beyond ↦ all.rest slot (inr beyond) ∙ sym (run_word-outside run (first + slot) _ (inr (omega (arith, beyond))))
      ]
    ]
