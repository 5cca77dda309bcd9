use Rattle.std.proofs.Common.{◌≡◌, ◌<◌, ◌∙◌, ap, sym, subst, refl, arith}
use Rattle.pm_region.specs.Memory.{current_words}
use Rattle.bp_changes.specs.Trail.{block_on}
use Rattle.bp_cow.specs.Plan.{planned, IsOnWay, way_end}
use Rattle.bp_cow.specs.Return.{CanGive}
use Rattle.bp_cow.proofs.ReturnLaws.{back_word}
use Rattle.bp_cow.proofs.release.give_way.Goals as goal

pub loop-depth-init : goal.loop-depth-init
loop-depth-init g c =
    let can = c.requires.1.1.1.0 in
    let way = can.way in
    let top = c.requires.1.1.1.1.0 in
    record { back = can.back; block = top ∙ ap (block_on g.plan.old) (sym (way.can.cover c.args.way.now.index way.here)); size = refl }

pub give_step-block-requires : goal.give_step-block-requires
give_step-block-requires g c κs within =
    let i = c.args.way.now.index in
    let depth = c.loop-depth.depth in
    let before = c.requires.1.1.1.0 in
    let more : depth < way_end c.args.touched.now i = subst (λ n. depth < n) c.requires.1.1.0.len c.loop-depth-test.true in
    let can : CanGive (planned g.plan c.args.touched.now) c.args.from i depth c.loop-depth.blocks (current_words (g.R.Region.memory c.args.region.now)) = record {
      left = before.left;
      way = record { can = before.way.can; here = before.way.here; low = c.loop-depth.auto.depth; high = omega (arith, more) };
      back = c.loop-depth.invariant.back;
      fits = omega (arith, before.fits, c.loop-depth.invariant.size);
    } in
    (within, (c.requires.1.0, (c.requires.1.1.0, (can, (more, (c.loop-depth.invariant.block, c.requires.1.1.1.1.1))))))

pub loop-depth-preserved : goal.loop-depth-preserved
loop-depth-preserved g c =
    record { back = c.give_step-block.ensures.back; block = c.give_step-block.ensures.block; size = c.give_step-block.ensures.size ∙ c.loop-depth.invariant.size }

pub returns-clause-back : goal.returns-clause-back
returns-clause-back g c =
    let i = c.args.way.now.index in
    let way = c.requires.1.1.1.0.way in
    let high = way.high in
    let ended = c.loop-depth.auto.depth-end (omega (arith, high, c.requires.1.1.0.len)) in
    let end : c.loop-depth.depth ≡ way_end c.args.touched.now i = omega (arith, high, c.requires.1.1.0.len, ended, c.loop-depth-test.false) in
    let on : IsOnWay (planned g.plan c.args.touched.now) c.args.from i c.loop-depth.depth =
    record { can = way.can; here = way.here; low = c.loop-depth.auto.depth; high = omega (arith, end) } in
    back_word on end c.loop-depth.invariant.back
