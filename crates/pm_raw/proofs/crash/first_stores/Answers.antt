use Rattle.std.proofs.Common.{arith}
use Rattle.pm_raw.proofs.PieceLaws.{run-counted, run-length}
use Rattle.pm_raw.proofs.crash.first_stores.Goals as goal

pub overflow_add-count : goal.overflow_add-count
overflow_add-count c =
    let values = c.in-Stores.values.now in
    omega (arith, c.loop-rest.invariant.few, run-length _ _ c.in-Stores.word values c.in-Stores.ensures.events, c.len-events.ensures)

pub loop-rest-preserved-in-Stores : goal.loop-rest-preserved-in-Stores
loop-rest-preserved-in-Stores c =
    let step = c.loop-rest.invariant in
    let values = c.in-Stores.values.now in
    record {
      few = omega (arith, step.few, run-length _ _ c.in-Stores.word values c.in-Stores.ensures.events);
      so_far = omega (arith, step.so_far, run-counted _ _ c.in-Stores.word values c.in-Stores.ensures.events);
    }
