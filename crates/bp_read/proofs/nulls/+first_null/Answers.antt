use Rattle.std.proofs.Common.{◌≡◌, ◌-◌, ◌*◌, ◌^◌, ◌∙◌, sym, subst, ap, arith}
use Rattle.bp_layout.specs.Words.{height_of}
use Rattle.pm_region.specs.Memory.{current_words}
use Rattle.bp_read.proofs.NullLeaves.{null_root, leaf_root, found_below, none_below, none_left}
use Rattle.bp_read.proofs.nulls.+first_null.Goals as goal

pub returns-then-block-eq0-clause-some : goal.returns-then-block-eq0-clause-some
returns-then-block-eq0-clause-some g t c = null_root (current_words (g.R.Region.memory c.args.region.now)) c.args.tree.root c.args.tree.size (omega arith) (sym c.block.ensures ∙ c.if-block-eq0.true)

pub returns-then-height-eq0-clause-none : goal.returns-then-height-eq0-clause-none
returns-then-height-eq0-clause-none g t c =
    leaf_root (current_words (g.R.Region.memory c.args.region.now)) c.args.tree.root c.args.tree.size c.requires (sym c.height.ensures ∙ c.if-height-eq0.true) (subst (λ b. ¬ (b ≡ 0)) c.block.ensures c.if-block-eq0.false)

pub overflow_mul-result : goal.overflow_mul-result
overflow_mul-result g t c =
    let found = found_below (current_words (g.R.Region.memory c.args.region.now)) c.args.tree.root c.args.tree.size (height_of c.args.tree.root - 1) c.loop-slot.slot c.span.result c.child.result.root c.child.result.size c.in-Some.leaf
    c.requires (omega (arith, c.height-level.ensures)) (subst (λ b. ¬ (b ≡ 0)) c.block.ensures c.if-block-eq0.false) (c.live_slots-slot-end.ensures.live c.loop-slot.slot c.loop-slot-test.true) c.child.ensures.root c.child.ensures.size
    (c.span.ensures ∙ ap (λ h. 4096 * 512 ^ (h - 1)) c.height-level.ensures) c.loop-slot.invariant c.in-Some.ensures.some in
    omega (arith, found.0)

pub overflow_add-result : goal.overflow_add-result
overflow_add-result g t c =
    let found = found_below (current_words (g.R.Region.memory c.args.region.now)) c.args.tree.root c.args.tree.size (height_of c.args.tree.root - 1) c.loop-slot.slot c.span.result c.child.result.root c.child.result.size c.in-Some.leaf
    c.requires (omega (arith, c.height-level.ensures)) (subst (λ b. ¬ (b ≡ 0)) c.block.ensures c.if-block-eq0.false) (c.live_slots-slot-end.ensures.live c.loop-slot.slot c.loop-slot-test.true) c.child.ensures.root c.child.ensures.size
    (c.span.ensures ∙ ap (λ h. 4096 * 512 ^ (h - 1)) c.height-level.ensures) c.loop-slot.invariant c.in-Some.ensures.some in
    omega (arith, found.0)

pub returns-in-Some-clause-some : goal.returns-in-Some-clause-some
returns-in-Some-clause-some g t c =
    found_below (current_words (g.R.Region.memory c.args.region.now)) c.args.tree.root c.args.tree.size (height_of c.args.tree.root - 1) c.loop-slot.slot c.span.result c.child.result.root c.child.result.size c.in-Some.leaf
    c.requires (omega (arith, c.height-level.ensures)) (subst (λ b. ¬ (b ≡ 0)) c.block.ensures c.if-block-eq0.false) (c.live_slots-slot-end.ensures.live c.loop-slot.slot c.loop-slot-test.true) c.child.ensures.root c.child.ensures.size
    (c.span.ensures ∙ ap (λ h. 4096 * 512 ^ (h - 1)) c.height-level.ensures) c.loop-slot.invariant c.in-Some.ensures.some

pub loop-slot-preserved : goal.loop-slot-preserved
loop-slot-preserved g t c =
    none_below (current_words (g.R.Region.memory c.args.region.now)) c.args.tree.root c.args.tree.size (height_of c.args.tree.root - 1) c.loop-slot.slot c.child.result.root c.child.result.size
    c.requires (omega (arith, c.height.ensures)) (subst (λ b. ¬ (b ≡ 0)) c.block.ensures c.if-block-eq0.false) (c.live_slots-slot-end.ensures.live c.loop-slot.slot c.loop-slot-test.true) c.child.ensures.root c.child.ensures.size
    c.loop-slot.invariant c.in_default.ensures.none

pub returns-clause-none : goal.returns-clause-none
returns-clause-none g t c =
    none_left (current_words (g.R.Region.memory c.args.region.now)) c.args.tree.root c.args.tree.size (height_of c.args.tree.root - 1) c.loop-slot.slot c.loop-slot.invariant
    (λ slot live. let low = c.live_slots-slot-end.ensures.all slot live in omega (arith, low))
