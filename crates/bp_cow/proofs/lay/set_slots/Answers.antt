use Rattle.std.proofs.Common.{◌≡◌, ℕ, ◌+◌, ◌-◌, ◌*◌, ◌<◌, get_or, ◌∙◌, ap, arith}
use Rattle.std.proofs.lemmas.List.{length-set}
use Rattle.bp_cow.proofs.RunLaws.{run_word-there}
use Rattle.bp_cow.proofs.SlotLaws.{lays_none, lays_one_more, lays_empty}
use Rattle.bp_cow.proofs.lay.set_slots.Goals as goal

pub returns-then-to-from : goal.returns-then-to-from
returns-then-to-from c = lays_empty c.args.run.now c.args.first c.args.from c.args.to c.args.words.now c.if-to-from.true

pub loop-slot-init : goal.loop-slot-init
loop-slot-init c = record { size = omega arith; begun = omega arith; laid = lays_none c.args.run.now c.args.first c.args.from c.args.words.now }

pub loop-slot-preserved : goal.loop-slot-preserved
loop-slot-preserved c =
    let before = c.loop-slot.invariant in
    let run = c.args.run.now in
    let bytes = run.bytes.now in
    let first = c.args.first in
    let from = c.args.from in
    let at = c.loop-slot.slot in
    let begun = c.requires.begun (omega arith) in
    let beyond = c.requires.not_ended (omega arith) in
    let there : 8 * (first + from) - run.offset + 8 * (at - from) ≡ 8 * (first + at) - run.offset = omega (arith, begun, before.begun) in
    let same = λ (i : ℕ) (few : i < 8). c.word_at.ensures i few ∙ ap (λ p. get_or bytes (p + i) 0) there in
    let value =
    run_word-there run (first + at) (get_or c.args.words.now at 0) c.word_at.result (omega (arith, c.word_at.type_inv)) (omega (arith, begun, before.begun)) (omega (arith, beyond, c.loop-slot-test.true)) same in
    record {
      size = length-set c.loop-slot.words at c.word_at.result ∙ before.size;
      begun = omega (arith, before.begun);
      laid = lays_one_more run first from at c.word_at.result c.args.words.now c.loop-slot.words (omega (arith, before.size, c.loop-slot-test.true, c.requires.to)) before.begun
          value before.laid;
    }
