use Rattle.std.proofs.Common.{◌≡◌, ℕ, List, suc, ◌+◌, refl, sym, ◌∙◌, subst, subst₂, arith}
use Rattle.bp_free.specs.Set.{members}
use Rattle.bp_layout.specs.Words.{height_of}
use Rattle.pm_region.specs.Memory.{Memory}
use Rattle.bp_append.specs.Risen.{CanRise, Rises}
use Rattle.bp_append.proofs.RiseLaws.{rises_none, rises_twice, can_next}
use Rattle.bp_append.proofs.raise.raise.Goals as goal

-- the same heights, written otherwise
rises_at : {old new : Memory} {free_old free_new bytes : List ℕ} {root top low high from to least most : ℕ} →
    Rises old new free_old free_new root top low high from to bytes → low ≡ least → high ≡ most →
    Rises old new free_old free_new root top least most from to bytes
rises_at {old} {new} {free_old} {free_new} {bytes} {root} {top} {low} {high} {from} {to} rises e f =
    subst₂ (λ a b. Rises old new free_old free_new root top a b from to bytes) e f rises

pub loop-level-init : goal.loop-level-init
loop-level-init g c = record {
  at = c.height-level.ensures;
  above = rw (c.height-level.ensures) (omega arith);
  rises = rw (c.height-level.ensures)
      (rises_none _ _ c.args.bytes.now c.args.tree.root c.args.wanted.from c.args.wanted.to (omega (arith, c.requires.order, c.requires.can.most)));
  room = refl;
}

pub raise_once-top-requires-clause-can : goal.raise_once-top-requires-clause-can
raise_once-top-requires-clause-can g c =
    let inv = c.loop-level.invariant in
    let can = can_next c.requires.can inv.above c.loop-level-test.true inv.rises in
    subst (λ l. CanRise (g.R.Region.memory c.loop-level.region) (members c.loop-level.blocks) l (suc l) c.args.wanted.from c.args.wanted.to) inv.at can

pub loop-level-preserved : goal.loop-level-preserved
loop-level-preserved g c =
    let inv = c.loop-level.invariant in
    let next : suc (height_of c.loop-level.top) ≡ c.loop-level.level + 1 = omega (arith, inv.at) in
    let raised = rises_at c.raise_once-top.ensures.rises (sym inv.at) next in
    record {
      at = sym (c.raise_once-top.ensures.tall ∙ next);
      above = omega (arith, inv.above);
      rises = rises_twice inv.rises raised c.requires.can.usable.apart inv.above (omega arith) (omega arith) (sym inv.at);
      room = c.raise_once-top.ensures.room ∙ inv.room;
    }

pub returns-clause-rises : goal.returns-clause-rises
returns-clause-rises g c =
    let end = c.loop-level.auto.level-end (rw (c.height-level.ensures) c.requires.order) in
    rises_at c.loop-level.invariant.rises refl (omega (arith, c.loop-level-test.false, end))
