use Rattle.std.proofs.Common.{◌≡◌, ◌-◌, ◌*◌, ◌/◌, ◌+◌, ◌<◌, ◌≤◌, ℕ, le_antisymm, arith, ap, sym, ◌∙◌}
use Rattle.bp_layout.specs.Tree.{span}
use Rattle.bp_layout.specs.Words.{block_count, block_of, height_of}
use Rattle.bp_layout.proofs.TreeLaws.{span-is}
use Rattle.pm_region.specs.Memory.{current_words}
use Rattle.bp_read.proofs.RegionWords.{length_now}
use Rattle.bp_append.proofs.TallyLaws.{span-positive}
use Rattle.bp_calls.proofs.TruncatedLaws.{LosesSlots, child_is_lower, child_is_sound, gives_none, leaf_gives, not_yet, null_truncated, slot_live}
use Rattle.bp_calls.proofs.TruncatedLaws.{slots_begin, slots_end, slots_order, slots_step, top_block, top_in_range}
use Rattle.bp_calls.proofs.release.+free_tree.Given.{Over}
use Rattle.bp_calls.proofs.release.+free_tree.Goals.{After-block-top, After-span-step}
use Rattle.bp_calls.proofs.release.+free_tree.Goals as goal

-- the top block is one of the region's
low : (g : Over) (t : ℕ) (c : After-block-top g t) → c.block-top.result < block_count (current_words (g.R.Region.memory c.args.region.now))
low g t c =
    let image = current_words (g.R.Region.memory c.args.region.now) in
    let inside = top_in_range image c.args.tree.root c.args.tree.size c.requires.sound (omega (arith, c.if-tree-shorter.false)) in
    omega (arith, inside, c.block-top.ensures)

-- the top of the tree has children, and some of them go
loses : (g : Over) (t : ℕ) (c : After-span-step g t)
    → LosesSlots (current_words (g.R.Region.memory c.args.region.now)) c.args.tree.root c.args.tree.size (height_of c.args.tree.root - 1) c.args.shorter
loses g t c = record {
  sound = c.requires.sound;
  some = c.if-tree-shorter.false;
  present = rw c.block-top.ensures at c.if-top-eq0.false;
  height = omega (arith, c.height-height.ensures, c.if-height-eq0.false);
}

-- a step goes over what a child has
step_is : (g : Over) (t : ℕ) (c : After-span-step g t) → c.span-step.result ≡ span (height_of c.args.tree.root - 1)
step_is g t c = c.span-step.ensures ∙ sym (span-is (c.height-height.result - 1)) ∙ ap (λ h. span (h - 1)) c.height-height.ensures

pub overflow_cast-top : goal.overflow_cast-top
overflow_cast-top g t c =
    let inside = low g t (goal.at.overflow_cast-top g t c).After-block-top in
    omega (arith, inside, c.words-words.ensures.count, c.words-words.ensures.few, length_now (g.R.Region.memory c.args.region.now))

pub returns-then-top-eq0 : goal.returns-then-top-eq0
returns-then-top-eq0 g t c =
    let image = current_words (g.R.Region.memory c.args.region.now) in
    gives_none _ c.args.blocks.now
    (λ b. null_truncated image c.args.tree.root c.args.tree.size c.args.shorter b (sym c.block-top.ensures ∙ c.if-top-eq0.true))

pub give_top-requires : goal.give_top-requires
give_top-requires g t c =
    let image = current_words (g.R.Region.memory c.args.region.now) in
    let inside = low g t (goal.at.give_top-requires g t c).After-block-top in
    let has = top_block image c.args.tree.root c.args.tree.size (omega (arith, c.if-tree-shorter.false))
    (rw c.block-top.ensures at c.if-top-eq0.false) in
    record {
      in_range = omega (arith, inside, c.requires.room);
      known = omega (arith, inside, c.requires.known);
      taken = rw c.block-top.ensures (c.requires.taken (block_of c.args.tree.root) has);
    }

pub returns-then-height-eq0 : goal.returns-then-height-eq0
returns-then-height-eq0 g t c =
    leaf_gives (current_words (g.R.Region.memory c.args.region.now)) c.args.tree.root c.args.tree.size c.args.shorter c.requires.sound
    c.if-tree-shorter.false (rw c.block-top.ensures at c.if-top-eq0.false) (sym c.height-height.ensures ∙ c.if-height-eq0.true)
    c.args.blocks.now c.give_top.new.blocks (rw c.block-top.ensures at c.give_top.ensures)

pub overflow_step-slot : goal.overflow_step-slot
overflow_step-slot g t c = rw (step_is g t (goal.at.overflow_step-slot g t c).After-span-step) (span-positive (height_of c.args.tree.root - 1))

pub nonzero_div-slot-end : goal.nonzero_div-slot-end
nonzero_div-slot-end g t c = rw (step_is g t (goal.at.nonzero_div-slot-end g t c).After-span-step) (span-positive (height_of c.args.tree.root - 1))

pub loop-slot-init : goal.loop-slot-init
loop-slot-init g t c =
    let at = (goal.at.loop-slot-init g t c).After-span-step in
    rw (step_is g t at) (slots_begin (loses g t at) c.args.blocks.now c.give_top.new.blocks (rw c.block-top.ensures at c.give_top.ensures))

pub free_tree-requires : goal.free_tree-requires
free_tree-requires g t c κs within =
    let at = (goal.at.free_tree-requires g t c).After-span-step in
    let tree = loses g t at in
    let slot = c.loop-slot.slot in
    let live = slot_live tree slot (rw (step_is g t at) at c.loop-slot-test.true) in
    let lower = ap height_of c.child-below.ensures.root ∙ child_is_lower tree slot live in (
      omega (arith, c.decreases, lower, tree.height),
      (
        within,
        (
          rw (c.child-below.ensures.root, c.child-below.ensures.size) (child_is_sound tree slot live),
          (
            c.loop-slot.invariant.room ∙ c.requires.room,
            (
              c.requires.known,
              rw (c.child-below.ensures.root, c.child-below.ensures.size)
                  (not_yet tree slot c.args.blocks.now c.loop-slot.blocks live c.requires.taken c.loop-slot.invariant),
            ),
          ),
        ),
      ),
    )

pub loop-slot-preserved : goal.loop-slot-preserved
loop-slot-preserved g t c =
    let at = (goal.at.loop-slot-preserved g t c).After-span-step in
    let is = step_is g t at in
    let tree = loses g t at in
    let slot = c.loop-slot.slot in
    let shorter : c.saturating_sub-left.result ≡ c.args.shorter - slot * span (height_of c.args.tree.root - 1) =
    c.saturating_sub-left.ensures ∙ ap (λ s. c.args.shorter - slot * s) is in
    slots_step tree slot c.args.blocks.now c.loop-slot.blocks c.free_tree.new.blocks (slot_live tree slot (rw is at c.loop-slot-test.true))
    c.loop-slot.invariant
    (rw (c.child-below.ensures.root, c.child-below.ensures.size, shorter) at c.free_tree.ensures)

pub returns : goal.returns
returns g t c =
    let at = (goal.at.returns g t c).After-span-step in
    let is = step_is g t at in
    let tree = loses g t at in
    let low : c.loop-slot.slot ≤ (c.args.tree.size - 1) / c.span-step.result + 1 = c.loop-slot.auto.slot-end (rw is (slots_order tree)) in
    let end : c.loop-slot.slot ≡ (c.args.tree.size - 1) / span (height_of c.args.tree.root - 1) + 1 = le_antisymm (rw is at low)
    (rw is at c.loop-slot-test.false) in
    slots_end tree c.args.blocks.now c.loop-slot.blocks (rw end at c.loop-slot.invariant)
