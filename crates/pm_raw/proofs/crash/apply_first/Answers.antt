use Rattle.std.proofs.Common.{◌∙◌, ap, arith, drop, sym}
use Rattle.std.proofs.lemmas.List.{take_rest}
use Rattle.pm_epochs.specs.Log.{words_after}
use Rattle.pm_raw.proofs.PieceLaws.{run-done, stores_of-barrier, stores_of-ended, stores_of-call_end}
use Rattle.pm_raw.proofs.crash.apply_first.Goals as goal

pub loop-rest-preserved-in-Stores : goal.loop-rest-preserved-in-Stores
loop-rest-preserved-in-Stores c =
    let values = c.in-Stores.values.now in
    let mask = c.loop-rest.mask.now in
    run-done c.loop-rest.rest c.take_first.new.self c.in-Stores.word values c.in-Stores.ensures.events c.loop-rest.words c.apply_stores.new.words mask _ c.apply_stores.ensures (take_rest mask _ ∙ ap (λ n. drop n mask) c.min.ensures)
    ∙ c.loop-rest.invariant

pub loop-rest-preserved : goal.loop-rest-preserved
loop-rest-preserved c =
    sym (ap (words_after c.loop-rest.words) (stores_of-call_end c.loop-rest.mask.now c.loop-rest.rest c.take_first.new.self c.in-CallEnd.ensures.events))
    ∙ c.loop-rest.invariant

pub returns-in-Barrier : goal.returns-in-Barrier
returns-in-Barrier c =
    sym (stores_of-barrier c.loop-rest.words c.loop-rest.mask.now c.loop-rest.rest c.take_first.new.self c.in-Barrier.ensures.events)
    ∙ c.loop-rest.invariant

pub returns : goal.returns
returns c =
    sym (stores_of-ended c.loop-rest.words c.loop-rest.mask.now c.loop-rest.rest (omega (arith, c.loop-rest-test.false)))
    ∙ c.loop-rest.invariant
