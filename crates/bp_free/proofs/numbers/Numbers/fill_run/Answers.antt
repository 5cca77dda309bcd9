use Rattle.std.proofs.Common.{◌+◌, ◌≤◌, length, arith, ap}
use Rattle.bp_free.proofs.Summary.{counted_below_filled, many_fit}
use Rattle.bp_free.proofs.numbers.Numbers.fill_run.Goals as goal

pub overflow_add-self : goal.overflow_add-self
overflow_add-self g c =
    let low : c.args.from + c.args.count ≤ length c.self.inside.free = omega (arith, ap length c.self.view_is, c.requires.in_range) in
    let fits = many_fit _ _ c.self.inside.count c.args.from c.args.count _ c.self.invariant.counted low (c.has_none.ensures.none.0 c.if-not-has_none.false) c.insert_run.ensures in
    omega (arith, fits)

pub invariant_of-self : goal.invariant_of-self
invariant_of-self g c =
    let low : c.args.from + c.args.count ≤ length c.self.inside.free = omega (arith, ap length c.self.view_is, c.requires.in_range) in
    counted_below_filled _ _ _ _ _ c.self.inside.count c.args.from c.args.count c.self.invariant c.requires.some c.requires.one_word low (c.has_none.ensures.none.0 c.if-not-has_none.false) c.insert_run.ensures c.insert.ensures
