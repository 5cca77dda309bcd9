use Rattle.std.proofs.Common.{◌+◌, sym, subst, arith}
use Rattle.pm_region.specs.Memory.{current_words}
use Rattle.bp_cache.specs.Collisions.{CollidesBelow, IsLeastNamed}
use Rattle.bp_cache.proofs.CollisionLaws.{named_here, named_other}
use Rattle.bp_cache.proofs.collisions.Collisions.find.Goals.{then-item-hash, else-item-hash}
use Rattle.bp_cache.proofs.collisions.Collisions.find.Goals as goal

pub loop-at-preserved : goal.loop-at-preserved
loop-at-preserved g c =
    let image = current_words (g.R.Region.memory c.args.region.now) in
    let items = c.args.self.now.slots.items in
    let IsSoFar = IsLeastNamed image c.args.tree.root c.args.tree.size c.args.name.now (CollidesBelow items (c.loop-at.at + 1) c.args.hash) in
    elim c.if-item-hash.branch [
      | then-item-hash w ↦
          subst IsSoFar (sym w.least-is) (subst IsSoFar (sym w.lesser_found-least.ensures)
          (named_here items c.loop-at.at c.index-item.result.now (omega (arith, c.loop-at-test.true, c.len-at-end.ensures)) c.index-item.ensures image c.args.tree.root c.args.tree.size
          c.args.name.now c.args.hash c.loop-at.least w.find_at.result w.find_at.ensures.some w.find_at.ensures.none c.loop-at.invariant))
      | else-item-hash w ↦
          subst IsSoFar (sym w.least-is)
          (named_other items c.loop-at.at c.index-item.result.now (omega (arith, c.loop-at-test.true, c.len-at-end.ensures)) c.index-item.ensures image c.args.tree.root c.args.tree.size
          c.args.name.now c.args.hash c.loop-at.least w.if-item-hash.false c.loop-at.invariant)
    ]
