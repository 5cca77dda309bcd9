use Rattle.std.proofs.Common.{◌*◌, sym, ◌∙◌, ap, arith}
use Rattle.bp_layout.proofs.TreeLaws.{slot_word-at}
use Rattle.bp_layout.specs.Words.{slot_word}
use Rattle.pm_region.specs.Memory.{current_words}
use Rattle.bp_layout.proofs.LoadedWords.{loaded_word}
use Rattle.bp_read.proofs.RegionWords.{length_now}
use Rattle.bp_read.proofs.StoredBytes.{leaf_word}
use Rattle.bp_read.proofs.reads.leaf_words.Goals as goal

pub overflow_mul-block : goal.overflow_mul-block
overflow_mul-block g c = omega (arith, length_now (g.R.Region.memory c.args.region.now))

pub load_words-requires-clause-in_range : goal.load_words-requires-clause-in_range
load_words-requires-clause-in_range g c = omega (arith, length_now (g.R.Region.memory c.args.region.now))

pub returns-then-block-eq0-clause-none : goal.returns-then-block-eq0-clause-none
returns-then-block-eq0-clause-none g c i low =
    let image = current_words (g.R.Region.memory c.args.region.now) in
    sym (leaf_word image c.args.tree.root c.args.leaf c.leaf_block-block.result i low c.leaf_block-block.ensures.node)
    ∙ ap (λ b. slot_word image b i) c.if-block-eq0.true

pub returns-else-block-eq0-clause-words : goal.returns-else-block-eq0-clause-words
returns-else-block-eq0-clause-words g c i low =
    let image = current_words (g.R.Region.memory c.args.region.now) in
    let block = c.leaf_block-block.result in
    loaded_word image c.load_words.result.now (512 * block) 512 c.load_words.ensures i low
    ∙ sym (slot_word-at image block i c.if-block-eq0.false)
    ∙ leaf_word image c.args.tree.root c.args.leaf block i low c.leaf_block-block.ensures.node
