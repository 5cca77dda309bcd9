use Rattle.std.proofs.Common.{arith}
use Rattle.pm_region.specs.Memory.{current_words}
use Rattle.bp_read.proofs.RegionWords.{length_now}
use Rattle.bp_read.proofs.EntryWords.{leaf_block_in_range, row_of}
use Rattle.bp_read.proofs.leaf.Leaf.words.Goals as goal

pub overflow_mul-self : goal.overflow_mul-self
overflow_mul-self g c =
    let image = current_words (g.R.Region.memory c.args.region.now) in
    omega (arith, length_now (g.R.Region.memory c.args.region.now), leaf_block_in_range image c.args.self.now c.requires.leaf)

pub load_words-requires-clause-in_range : goal.load_words-requires-clause-in_range
load_words-requires-clause-in_range g c =
    let image = current_words (g.R.Region.memory c.args.region.now) in
    omega (arith, length_now (g.R.Region.memory c.args.region.now), leaf_block_in_range image c.args.self.now c.requires.leaf, c.requires.leaf.few)

pub returns : goal.returns
returns g c =
    let image = current_words (g.R.Region.memory c.args.region.now) in
    row_of image c.args.self.now c.load_words.result.now c.requires.leaf c.requires.present
    (omega (arith, leaf_block_in_range image c.args.self.now c.requires.leaf, c.requires.leaf.few)) c.load_words.ensures
