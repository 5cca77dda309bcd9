use Rattle.std.proofs.Common.{◌+◌, length, Some, sym, subst, arith}
use Rattle.bp_cache.proofs.CollisionLaws.{IsLeastBelow, least_here, least_other}
use Rattle.bp_cache.proofs.collisions.Collisions.least.Goals.{then-item-hash, else-item-hash}
use Rattle.bp_cache.proofs.collisions.Collisions.least.Goals as goal

pub loop-at-preserved : goal.loop-at-preserved
loop-at-preserved c =
    let items = c.args.self.now.slots.items in
    elim c.if-item-hash.branch [
      | then-item-hash w ↦
          subst (IsLeastBelow items (c.loop-at.at + 1) c.args.hash) (sym w.least-is)
          (least_here items c.loop-at.at c.index-item.result.now (omega (arith, c.loop-at-test.true, c.len-at-end.ensures)) c.index-item.ensures
          c.args.hash c.loop-at.least w.lesser_slot.result w.if-item-hash.true w.lesser_slot.ensures.some w.lesser_slot.ensures.none c.loop-at.invariant)
      | else-item-hash w ↦
          subst (IsLeastBelow items (c.loop-at.at + 1) c.args.hash) (sym w.least-is)
          (least_other items c.loop-at.at c.index-item.result.now (omega (arith, c.loop-at-test.true, c.len-at-end.ensures)) c.index-item.ensures
          c.args.hash c.loop-at.least w.if-item-hash.false c.loop-at.invariant)
    ]

pub returns-clause-least : goal.returns-clause-least
returns-clause-least c =
    let whole : IsLeastBelow c.args.self.now.slots.items (length c.args.self.now.slots.items) c.args.hash c.loop-at.least =
    subst (λ n. IsLeastBelow c.args.self.now.slots.items n c.args.hash c.loop-at.least)
    (omega (arith, c.loop-at-test.false, c.len-at-end.ensures, c.loop-at.auto.at-end)) c.loop-at.invariant in
    whole.least

pub returns-clause-none : goal.returns-clause-none
returns-clause-none c =
    let whole : IsLeastBelow c.args.self.now.slots.items (length c.args.self.now.slots.items) c.args.hash c.loop-at.least =
    subst (λ n. IsLeastBelow c.args.self.now.slots.items n c.args.hash c.loop-at.least)
    (omega (arith, c.loop-at-test.false, c.len-at-end.ensures, c.loop-at.auto.at-end)) c.loop-at.invariant in
    whole.none
