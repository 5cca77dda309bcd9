use Rattle.std.proofs.Common.{◌+◌, arith}
use Rattle.pm_region.specs.Memory.{current_words}
use Rattle.bp_layout.proofs.EntryWords.{entry_of}
use Rattle.bp_read.proofs.EntryWords.{null_word}
use Rattle.bp_read.proofs.leaf.Leaf.entry.Goals as goal

pub returns-then-self-eq0-clause-none : goal.returns-then-self-eq0-clause-none
returns-then-self-eq0-clause-none g c field within =
    let image = current_words (g.R.Region.memory c.args.region.now) in
    let leaf = c.args.self.now in
    null_word image leaf (leaf.first + c.args.index) field within c.requires.leaf c.if-self-eq0.true (omega arith) (omega (arith, c.requires.live))

pub in_row-requires : goal.in_row-requires
in_row-requires g c = omega (arith, c.words.ensures.long, c.requires.live)

pub returns-clause-some : goal.returns-clause-some
returns-clause-some g c =
    let image = current_words (g.R.Region.memory c.args.region.now) in
    let leaf = c.args.self.now in
    rw c.in_row.ensures (entry_of image leaf.tree.root leaf.first leaf.count c.args.index c.words.result.now c.words.ensures c.requires.live)
