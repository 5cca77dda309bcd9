use Rattle.std.proofs.Common.{◌≡◌, ◌<◌, length, false, arith, ap, ◌∙◌}
use Rattle.bp_free.specs.Set.{has}
use Rattle.bp_free.proofs.Summary.{counted_below_with, one_fits}
use Rattle.bp_free.proofs.numbers.Numbers.add.Goals as goal

pub overflow_add-self : goal.overflow_add-self
overflow_add-self g c =
    let low : c.args.i < length c.self.inside.free = omega (arith, ap length c.self.view_is, c.requires.in_range) in
    let out : has c.self.inside.free c.args.i ≡ false = ap (λ s. has s c.args.i) c.self.view_is ∙ c.requires.taken in
    let fits = one_fits _ _ _ c.args.i c.self.invariant.counted low out in
    omega (arith, fits)

pub invariant_of-self : goal.invariant_of-self
invariant_of-self g c =
    let low : c.args.i < length c.self.inside.free = omega (arith, ap length c.self.view_is, c.requires.in_range) in
    let out : has c.self.inside.free c.args.i ≡ false = ap (λ s. has s c.args.i) c.self.view_is ∙ c.requires.taken in
    counted_below_with _ _ _ _ _ _ c.args.i c.self.invariant c.insert.ensures c.insert-2.ensures low out
