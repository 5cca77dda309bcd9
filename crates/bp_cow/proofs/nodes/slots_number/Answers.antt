use Rattle.std.proofs.Common.{arith}
use Rattle.bp_cow.proofs.WordLive.{number-low}
use Rattle.bp_cow.proofs.nodes.slots_number.Goals as goal

pub overflow_mul-number : goal.overflow_mul-number
overflow_mul-number c =
    let low = number-low c.loop-level.number c.loop-level.level c.loop-level.invariant.low (omega (arith, c.loop-level-test.true, c.requires.few)) in
    omega (arith, low)

pub overflow_add-number : goal.overflow_add-number
overflow_add-number c =
    let low = number-low c.loop-level.number c.loop-level.level c.loop-level.invariant.low (omega (arith, c.loop-level-test.true, c.requires.few)) in
    let fits = c.from.type_inv in
    omega (arith, low, fits)
