use Rattle.std.proofs.Common.{◌≡◌, ◌∙◌, slice_index, refl, sym, arith}
use Rattle.bp_layout.specs.Inode.{inode_word}
use Rattle.pm_region.specs.Memory.{current_words}
use Rattle.bp_read.proofs.RegionWords.{length_now}
use Rattle.bp_read.proofs.InodeWords.{found_block, loaded_field, kind_word-of, root_word-of, size_word-of}
use Rattle.bp_read.proofs.inodes.get_in.Goals as goal

pub overflow_mul-first : goal.overflow_mul-first
overflow_mul-first g c = omega (arith, length_now (g.R.Region.memory c.args.region.now))

pub overflow_add-first : goal.overflow_add-first
overflow_add-first g c = omega (arith, length_now (g.R.Region.memory c.args.region.now))

pub overflow_cast-first : goal.overflow_cast-first
overflow_cast-first g c = omega (arith, length_now (g.R.Region.memory c.args.region.now))

pub load_words-words-requires-clause-in_range : goal.load_words-words-requires-clause-in_range
load_words-words-requires-clause-in_range g c = omega (arith, length_now (g.R.Region.memory c.args.region.now))

pub load_words-words-requires-clause-after_head : goal.load_words-words-requires-clause-after_head
load_words-words-requires-clause-after_head g c =
    let image = current_words (g.R.Region.memory c.args.region.now) in
    omega (
      arith,
      found_block image c.args.ino c.args.inodes.root c.leaf_block-block.result c.requires.some c.requires.least c.requires.root c.leaf_block-block.ensures.node,
    )

pub read-requires-clause-least : goal.read-requires-clause-least
read-requires-clause-least g c =
    let image = current_words (g.R.Region.memory c.args.region.now) in
    let word : slice_index c.load_words-words.result.now 0 ≡ inode_word image c.args.ino 0 =
    loaded_field image c.args.ino 0 c.args.inodes.root c.leaf_block-block.result _ c.load_words-words.result.now (omega arith)
    c.requires.some c.requires.least c.requires.root c.leaf_block-block.ensures.node refl c.load_words-words.ensures in
    omega (arith, word, kind_word-of image c.args.ino c.requires.some, c.requires.least)

pub read-requires-clause-most : goal.read-requires-clause-most
read-requires-clause-most g c =
    let image = current_words (g.R.Region.memory c.args.region.now) in
    let word : slice_index c.load_words-words.result.now 0 ≡ inode_word image c.args.ino 0 =
    loaded_field image c.args.ino 0 c.args.inodes.root c.leaf_block-block.result _ c.load_words-words.result.now (omega arith)
    c.requires.some c.requires.least c.requires.root c.leaf_block-block.ensures.node refl c.load_words-words.ensures in
    omega (arith, word, kind_word-of image c.args.ino c.requires.some, c.requires.most)

pub returns-clause-kind : goal.returns-clause-kind
returns-clause-kind g c =
    let image = current_words (g.R.Region.memory c.args.region.now) in
    let word : slice_index c.load_words-words.result.now 0 ≡ inode_word image c.args.ino 0 =
    loaded_field image c.args.ino 0 c.args.inodes.root c.leaf_block-block.result _ c.load_words-words.result.now (omega arith)
    c.requires.some c.requires.least c.requires.root c.leaf_block-block.ensures.node refl c.load_words-words.ensures in
    c.read.ensures.kind ∙ word ∙ sym (kind_word-of image c.args.ino c.requires.some)

pub returns-clause-root : goal.returns-clause-root
returns-clause-root g c =
    let image = current_words (g.R.Region.memory c.args.region.now) in
    let word : slice_index c.load_words-words.result.now 1 ≡ inode_word image c.args.ino 1 =
    loaded_field image c.args.ino 1 c.args.inodes.root c.leaf_block-block.result _ c.load_words-words.result.now (omega arith)
    c.requires.some c.requires.least c.requires.root c.leaf_block-block.ensures.node refl c.load_words-words.ensures in
    c.read.ensures.root ∙ word ∙ sym (root_word-of image c.args.ino c.requires.some)

pub returns-clause-size : goal.returns-clause-size
returns-clause-size g c =
    let image = current_words (g.R.Region.memory c.args.region.now) in
    let word : slice_index c.load_words-words.result.now 2 ≡ inode_word image c.args.ino 2 =
    loaded_field image c.args.ino 2 c.args.inodes.root c.leaf_block-block.result _ c.load_words-words.result.now (omega arith)
    c.requires.some c.requires.least c.requires.root c.leaf_block-block.ensures.node refl c.load_words-words.ensures in
    c.read.ensures.size ∙ word ∙ sym (size_word-of image c.args.ino c.requires.some)
