use Rattle.std.proofs.Common.{◌∙◌, ap, arith, length, sym}
use Rattle.std.proofs.lemmas.List.{take_rest}
use Rattle.pm_raw.proofs.PieceLaws.{call_ends_of-barrier, call_ends_of-call_end, run-kept, run-length, run-lost, run-within}
use Rattle.pm_raw.proofs.crash.calls_of.Goals as goal

pub overflow_add-calls : goal.overflow_add-calls
overflow_add-calls c = omega (arith, c.loop-rest.invariant.few, ap length c.in-CallEnd.ensures.events, c.len-events.ensures)

pub returns-then-not-keeps_first : goal.returns-then-not-keeps_first
returns-then-not-keeps_first c =
    omega (arith, c.loop-rest.invariant.so_far, run-lost c.loop-rest.rest c.take_first.new.self c.in-Stores.word c.in-Stores.values.now c.in-Stores.ensures.events c.loop-rest.mask.now (sym c.keeps_first.ensures ∙ c.if-not-keeps_first.true))

pub loop-rest-preserved-in-Stores : goal.loop-rest-preserved-in-Stores
loop-rest-preserved-in-Stores c =
    let step = c.loop-rest.invariant in
    let rest = c.loop-rest.rest in
    let new = c.take_first.new.self in
    let word = c.in-Stores.word in
    let values = c.in-Stores.values.now in
    let are = c.in-Stores.ensures.events in
    let mask = c.loop-rest.mask.now in
    record {
      few = omega (arith, step.few, run-length rest new word values are);
      so_far = omega (arith, step.so_far, run-kept rest new word values are mask _ (sym c.keeps_first.ensures ∙ c.if-not-keeps_first.false) (take_rest mask (length values)));
    }

pub loop-rest-preserved-in-Barrier : goal.loop-rest-preserved-in-Barrier
loop-rest-preserved-in-Barrier c =
    let step = c.loop-rest.invariant in
    let are = c.in-Barrier.ensures.events in
    record {
      few = omega (arith, step.few, ap length are);
      so_far = omega (arith, step.so_far, call_ends_of-barrier c.loop-rest.mask.now c.loop-rest.rest c.take_first.new.self are);
    }

pub loop-rest-preserved : goal.loop-rest-preserved
loop-rest-preserved c =
    let step = c.loop-rest.invariant in
    let are = c.in-CallEnd.ensures.events in
    record {
      few = omega (arith, step.few, ap length are);
      so_far = omega (arith, step.so_far, call_ends_of-call_end c.loop-rest.mask.now c.loop-rest.rest c.take_first.new.self are);
    }

pub slice_bounds-mask-count : goal.slice_bounds-mask-count
slice_bounds-mask-count c =
    omega (arith, run-within c.loop-rest.rest c.take_first.new.self c.in-Stores.word c.in-Stores.values.now c.in-Stores.ensures.events c.loop-rest.mask.now (sym c.keeps_first.ensures ∙ c.if-not-keeps_first.false))

pub slice_bounds-mask-start : goal.slice_bounds-mask-start
slice_bounds-mask-start c =
    omega (arith, run-within c.loop-rest.rest c.take_first.new.self c.in-Stores.word c.in-Stores.values.now c.in-Stores.ensures.events c.loop-rest.mask.now (sym c.keeps_first.ensures ∙ c.if-not-keeps_first.false))
