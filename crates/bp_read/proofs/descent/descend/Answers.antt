use Rattle.std.proofs.Common.{arith, ap₂, ◌∙◌}
use Rattle.pm_region.specs.Memory.{current_words}
use Rattle.bp_layout.specs.Words.{slot_word}
use Rattle.bp_read.proofs.StepDown.{at_root, at_end, few_levels, on_the_way, step_down}
use Rattle.bp_read.proofs.descent.descend.Goals as goal

pub loop-levels-init : goal.loop-levels-init
loop-levels-init g c = record {
  within = omega arith;
  reached = at_root (current_words (g.R.Region.memory c.args.region.now)) c.args.tree.root c.args.index c.args.depth;
}

pub digit-slot-requires : goal.digit-slot-requires
digit-slot-requires g c =
    omega (
      arith,
      few_levels (current_words (g.R.Region.memory c.args.region.now)) c.args.tree.root c.args.tree.size c.args.depth c.args.index c.requires.sound c.requires.live,
      c.loop-levels.invariant.within,
    )

pub load_slot-word-requires-clause-block : goal.load_slot-word-requires-clause-block
load_slot-word-requires-clause-block g c =
    rw (c.block_of.ensures, c.loop-levels.invariant.reached)
    (c.requires.sound.in_range _ _ (on_the_way c.args.tree.root c.args.tree.size c.args.depth c.args.index c.loop-levels.levels c.requires.live c.loop-levels-test.true c.loop-levels.invariant.within))

pub loop-levels-preserved : goal.loop-levels-preserved
loop-levels-preserved g c = record {
  within = omega arith;
  reached = step_down (current_words (g.R.Region.memory c.args.region.now)) c.args.tree.root c.args.depth c.args.index c.loop-levels.levels c.loop-levels.word c.load_slot-word.result
      c.loop-levels-test.true c.loop-levels.invariant.within c.loop-levels.invariant.reached (c.load_slot-word.ensures ∙ ap₂ (slot_word (current_words (g.R.Region.memory c.args.region.now))) c.block_of.ensures c.digit-slot.ensures);
}

pub returns : goal.returns
returns g c = at_end (current_words (g.R.Region.memory c.args.region.now)) c.args.tree.root c.args.depth c.args.index c.loop-levels.levels c.loop-levels.word c.loop-levels-test.false c.loop-levels.invariant.reached
