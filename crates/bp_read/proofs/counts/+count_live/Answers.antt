use Rattle.std.proofs.Common.{◌≡◌, ◌+◌, ◌-◌, ◌∙◌, sym, subst, arith}
use Rattle.bp_layout.specs.Words.{height_of}
use Rattle.pm_region.specs.Memory.{current_words}
use Rattle.bp_read.proofs.BlockCounts.{empty_count, null_count, leaf_count, CountsUpTo, first_count, more_counts, all_counted, so_far_within}
use Rattle.bp_read.proofs.RegionWords.{length_now}
use Rattle.bp_read.proofs.counts.+count_live.Goals as goal
use Rattle.bp_read.proofs.counts.+count_live.Goals.{then-tree-eq0-via-then-tree-eq0, then-tree-eq0-via-else-tree-eq0+then-block-eq0}

pub returns-then-tree-eq0 : goal.returns-then-tree-eq0
returns-then-tree-eq0 g t c =
    let image = current_words (g.R.Region.memory c.args.region.now) in
    elim c.then-tree-eq0.branch [
      | then-tree-eq0-via-then-tree-eq0 w ↦ empty_count image c.args.tree.root c.args.tree.size w.if-tree-eq0.true
      | then-tree-eq0-via-else-tree-eq0+then-block-eq0 w ↦ null_count image c.args.tree.root c.args.tree.size (sym w.block.ensures ∙ w.if-block-eq0.true)
    ]

pub returns-then-height-eq0 : goal.returns-then-height-eq0
returns-then-height-eq0 g t c =
    leaf_count (current_words (g.R.Region.memory c.args.region.now)) c.args.tree.root c.args.tree.size c.requires (omega arith) (sym c.height.ensures ∙ c.if-height-eq0.true) (subst (λ b. ¬ (b ≡ 0)) c.block.ensures c.if-block-eq0.false)

pub loop-slot-init : goal.loop-slot-init
loop-slot-init g t c =
    first_count (current_words (g.R.Region.memory c.args.region.now)) c.args.tree.root c.args.tree.size (height_of c.args.tree.root - 1) c.requires (omega arith)

pub overflow_add-count : goal.overflow_add-count
overflow_add-count g t c =
    let image = current_words (g.R.Region.memory c.args.region.now) in
    let level = height_of c.args.tree.root - 1 in
    let count = c.loop-slot.count + c.count_live-count.result in
    let more : CountsUpTo image c.args.tree.root c.args.tree.size level (c.loop-slot.slot + 1) count =
    more_counts image c.args.tree.root c.args.tree.size level c.loop-slot.slot c.child.result.root c.child.result.size
    c.loop-slot.count c.count_live-count.result c.requires (omega (arith, c.height.ensures)) (subst (λ b. ¬ (b ≡ 0)) c.block.ensures c.if-block-eq0.false) (c.live_slots-slot-end.ensures.live c.loop-slot.slot c.loop-slot-test.true)
    c.child.ensures.root c.child.ensures.size c.loop-slot.invariant c.count_live-count.ensures in
    omega (arith, so_far_within image c.args.tree.root c.args.tree.size level (c.loop-slot.slot + 1) count more, length_now (g.R.Region.memory c.args.region.now), c.words-words.ensures.few)

pub loop-slot-preserved : goal.loop-slot-preserved
loop-slot-preserved g t c =
    more_counts (current_words (g.R.Region.memory c.args.region.now)) c.args.tree.root c.args.tree.size (height_of c.args.tree.root - 1) c.loop-slot.slot c.child.result.root c.child.result.size
    c.loop-slot.count c.count_live-count.result c.requires (omega (arith, c.height.ensures)) (subst (λ b. ¬ (b ≡ 0)) c.block.ensures c.if-block-eq0.false) (c.live_slots-slot-end.ensures.live c.loop-slot.slot c.loop-slot-test.true)
    c.child.ensures.root c.child.ensures.size c.loop-slot.invariant c.count_live-count.ensures

pub returns : goal.returns
returns g t c =
    all_counted (current_words (g.R.Region.memory c.args.region.now)) c.args.tree.root c.args.tree.size (height_of c.args.tree.root - 1) c.loop-slot.slot c.loop-slot.count
    c.requires (omega (arith, c.height.ensures)) (subst (λ b. ¬ (b ≡ 0)) c.block.ensures c.if-block-eq0.false) (omega arith) (λ slot live. let low = c.live_slots-slot-end.ensures.all slot live in omega (arith, low)) c.loop-slot.invariant
