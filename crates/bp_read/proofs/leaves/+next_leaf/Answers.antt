use Rattle.std.proofs.Common.{◌≡◌, ◌-◌, ◌*◌, ◌^◌, ◌∙◌, refl, sym, subst, ap, arith}
use Rattle.bp_layout.specs.Words.{height_of}
use Rattle.bp_layout.specs.Tree.{span}
use Rattle.bp_layout.proofs.TreeLaws.{span-is}
use Rattle.pm_region.specs.Memory.{current_words}
use Rattle.bp_read.proofs.NextLeaves.{found_below, leaf_itself, none_below, none_below_null, none_left}
use Rattle.bp_read.proofs.leaves.+next_leaf.Goals as goal

pub returns-then-block-eq0-clause-none : goal.returns-then-block-eq0-clause-none
returns-then-block-eq0-clause-none g t c =
    none_below_null (current_words (g.R.Region.memory c.args.region.now)) c.args.tree.root c.args.tree.size c.args.from (sym c.block.ensures ∙ c.if-block-eq0.true)

pub returns-then-from-eq0-clause-some : goal.returns-then-from-eq0-clause-some
returns-then-from-eq0-clause-some g t c =
    leaf_itself (current_words (g.R.Region.memory c.args.region.now)) c.args.tree.root c.args.tree.size c.args.from (sym c.height.ensures ∙ c.if-height-eq0.true)
    (subst (λ b. ¬ (b ≡ 0)) c.block.ensures c.if-block-eq0.false) (omega arith) c.if-from-eq0.true

pub overflow_mul-before : goal.overflow_mul-before
overflow_mul-before g t c =
    let live = c.live_slots-slot-end.ensures.live c.loop-slot.slot c.loop-slot-test.true in
    let wide : c.loop-slot.slot * span (height_of c.args.tree.root - 1) ≡ 4096 * (c.loop-slot.slot * 512 ^ (height_of c.args.tree.root - 1)) = ap (λ s. c.loop-slot.slot * s) (span-is (height_of c.args.tree.root - 1)) ∙ omega arith in
    let same : c.loop-slot.slot * c.leaves_below-leaves.result ≡ c.loop-slot.slot * 512 ^ (height_of c.args.tree.root - 1) = ap (λ n. c.loop-slot.slot * n) c.leaves_below-leaves.ensures.count in
    omega (arith, live, wide, same)

pub returns-in-Some-clause-some : goal.returns-in-Some-clause-some
returns-in-Some-clause-some g t c =
    found_below (current_words (g.R.Region.memory c.args.region.now)) c.args.tree.root c.args.tree.size (height_of c.args.tree.root - 1) c.loop-slot.slot c.args.from
    c.leaves_below-leaves.result (c.loop-slot.slot * c.leaves_below-leaves.result) c.child.result.root c.child.result.size c.saturating_sub-rest.result c.in-Some.leaf
    c.requires (omega (arith, c.height.ensures)) (subst (λ b. ¬ (b ≡ 0)) c.block.ensures c.if-block-eq0.false) (c.live_slots-slot-end.ensures.live c.loop-slot.slot c.loop-slot-test.true) c.child.ensures.root c.child.ensures.size
    c.leaves_below-leaves.ensures.count refl (omega (arith, c.saturating_sub-rest.ensures)) c.loop-slot.invariant c.in-Some.ensures.some

pub loop-slot-preserved : goal.loop-slot-preserved
loop-slot-preserved g t c =
    none_below (current_words (g.R.Region.memory c.args.region.now)) c.args.tree.root c.args.tree.size (height_of c.args.tree.root - 1) c.loop-slot.slot c.args.from
    c.leaves_below-leaves.result (c.loop-slot.slot * c.leaves_below-leaves.result) c.child.result.root c.child.result.size c.saturating_sub-rest.result
    c.requires (omega (arith, c.height.ensures)) (subst (λ b. ¬ (b ≡ 0)) c.block.ensures c.if-block-eq0.false) (c.live_slots-slot-end.ensures.live c.loop-slot.slot c.loop-slot-test.true) c.child.ensures.root c.child.ensures.size
    c.leaves_below-leaves.ensures.count refl (omega (arith, c.saturating_sub-rest.ensures)) c.loop-slot.invariant c.in_default.ensures.none

pub returns-clause-none : goal.returns-clause-none
returns-clause-none g t c =
    none_left (current_words (g.R.Region.memory c.args.region.now)) c.args.tree.root c.args.tree.size (height_of c.args.tree.root - 1) c.args.from c.loop-slot.slot c.loop-slot.invariant
    (λ slot live. let low = c.live_slots-slot-end.ensures.all slot live in omega (arith, low))
