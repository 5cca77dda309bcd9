use Rattle.std.proofs.Common.{◌∙◌, length, arith}
use Rattle.pm_region.specs.Memory.{current_words}
use Rattle.bp_read.proofs.RegionWords.{length_now}
use Rattle.bp_read.proofs.StoredBytes.{null_part, leaf_part}
use Rattle.bp_read.proofs.reads.read_leaf.Goals as goal

pub overflow_mul-leaf : goal.overflow_mul-leaf
overflow_mul-leaf g c = omega (arith, length_now (g.R.Region.memory c.args.region.now))

pub overflow_add-leaf : goal.overflow_add-leaf
overflow_add-leaf g c = omega (arith, length_now (g.R.Region.memory c.args.region.now))

pub returns-then-leaf-eq0 : goal.returns-then-leaf-eq0
returns-then-leaf-eq0 g c =
    c.fill.ensures.after (λ y same. same)
    ∙ null_part (current_words (g.R.Region.memory c.args.region.now)) c.args.tree.root c.args.offset (length c.args.into.now) c.leaf_block-leaf.result
    c.if-leaf-eq0.true c.leaf_block-leaf.ensures.node c.requires.within

pub returns-else-leaf-eq0 : goal.returns-else-leaf-eq0
returns-else-leaf-eq0 g c =
    c.read_bytes.ensures ∙ leaf_part (current_words (g.R.Region.memory c.args.region.now)) c.args.tree.root c.args.offset (length c.args.into.now) c.leaf_block-leaf.result
    c.if-leaf-eq0.false c.leaf_block-leaf.ensures.node c.requires.within
