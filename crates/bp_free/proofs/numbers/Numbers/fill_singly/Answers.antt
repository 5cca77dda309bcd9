use Rattle.std.proofs.Common.{◌≡◌, ◌<◌, ◌+◌, length, arith, subst, sym, ◌∙◌}
use Rattle.bp_free.specs.Set.{Fills}
use Rattle.bp_free.proofs.Summary.{fills_none, fills_had, fills_more}
use Rattle.bp_free.proofs.numbers.Numbers.fill_singly.Goals as goal
use Rattle.bp_free.proofs.numbers.Numbers.fill_singly.Goals.{then-not-contains, else-not-contains}

pub loop-i-init : goal.loop-i-init
loop-i-init g c = fills_none c.args.from c.args.self.now

pub contains-requires : goal.contains-requires
contains-requires g c = omega (arith, c.loop-i.invariant.room, c.loop-i-test.true, c.requires.in_range)

pub add-requires-clause-in_range : goal.add-requires-clause-in_range
add-requires-clause-in_range g c = omega (arith, c.loop-i.invariant.room, c.loop-i-test.true, c.requires.in_range)

pub loop-i-preserved : goal.loop-i-preserved
loop-i-preserved g c =
    let low : c.loop-i.i < length c.loop-i.self = omega (arith, c.loop-i.invariant.room, c.loop-i-test.true, c.requires.in_range) in
    elim c.if-not-contains.branch [
      | then-not-contains w ↦ fills_more c.args.from c.loop-i.i c.args.self.now c.loop-i.self c.if-not-contains.self c.loop-i.auto.i c.loop-i.invariant low (w.self-is ∙ w.add.ensures)
      | else-not-contains w ↦ subst (λ s. Fills c.args.from (c.loop-i.i + 1) c.args.self.now s) (sym w.self-is) (fills_had c.args.from c.loop-i.i c.args.self.now c.loop-i.self c.loop-i.invariant (sym w.if-not-contains.ensures))
    ]

pub returns : goal.returns
returns g c =
    let end : c.loop-i.i ≡ c.args.to = omega (arith, c.requires.order, c.loop-i-test.false, c.loop-i.auto) in
    subst (λ n. Fills c.args.from n c.args.self.now c.loop-i.self) end c.loop-i.invariant
