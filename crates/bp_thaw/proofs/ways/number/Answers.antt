use Rattle.std.proofs.Common.{◌≡◌, ◌-◌, ◌^◌, ◌<◌, get_or, sym, ◌∙◌, ap, subst, arith}
use Rattle.bp_thaw.proofs.WayNumbers.{number_more, number_next, number_small, number_start}
use Rattle.bp_thaw.proofs.ways.number.Goals as goal

pub loop-i-init : goal.loop-i-init
loop-i-init c =
    let none : c.args.from - c.args.from ≡ 0 = omega arith in
    record { value = number_start c.args.way.now.items c.args.from (omega (arith, c.requires.order, c.requires.in_range)); below = subst (λ n. 0 < 512 ^ n) (sym none) (omega arith) }

pub overflow_mul-number : goal.overflow_mul-number
overflow_mul-number c = omega (arith, number_small c.loop-i.number c.args.from c.loop-i.i c.loop-i.invariant.below (omega (arith, c.loop-i-test.true, c.requires.few)))

pub overflow_add-number : goal.overflow_add-number
overflow_add-number c =
    let slot : c.from.result ≡ get_or c.args.way.now.items c.loop-i.i 0 = c.from.ensures ∙ ap (λ xs. get_or xs c.loop-i.i 0) c.deref.ensures.0 in
    omega (arith, slot, c.requires.slots c.loop-i.i, number_small c.loop-i.number c.args.from c.loop-i.i c.loop-i.invariant.below (omega (arith, c.loop-i-test.true, c.requires.few)))

pub loop-i-preserved : goal.loop-i-preserved
loop-i-preserved c =
    let way = c.args.way.now.items in
    let slot : c.from.result ≡ get_or way c.loop-i.i 0 = c.from.ensures ∙ ap (λ xs. get_or xs c.loop-i.i 0) c.deref.ensures.0 in
    let more = number_more way c.args.from c.loop-i.i c.loop-i.auto.i (omega (arith, c.loop-i-test.true, c.requires.in_range)) in
    record {
      value = omega (arith, c.loop-i.invariant.value, slot, more);
      below = number_next c.loop-i.number c.from.result c.args.from c.loop-i.i c.loop-i.auto.i c.loop-i.invariant.below (omega (arith, slot, c.requires.slots c.loop-i.i));
    }
