use Rattle.std.proofs.Common.{◌≡◌, ◌+◌, false, slice_index, sym, ◌∙◌, ap, arith}
use borrow.Author.Count.{below_more}
use Rattle.bp_layout.specs.Directory.{is_named_in}
use Rattle.bp_layout.proofs.Finding.{find-first, find-nothing}
use Rattle.pm_region.specs.Memory.{current_words}
use Rattle.bp_read.proofs.DirectoryLeaves.{from-first}
use Rattle.bp_layout.proofs.EntryWords.{entry_of, ino_of}
use Rattle.bp_read.proofs.EntryWords.{null_leaf}
use Rattle.bp_layout.proofs.PartLaws.{is_named-empty}
use Rattle.bp_read.proofs.leaf.Leaf.find.Goals as goal

pub returns-then-self-eq0-clause-slot : goal.returns-then-self-eq0-clause-slot
returns-then-self-eq0-clause-slot g c =
    let image = current_words (g.R.Region.memory c.args.region.now) in
    let leaf = c.args.self.now in
    let name = c.args.name.now in
    sym (find-nothing (is_named_in image leaf.tree.root name) leaf.first leaf.count
    (λ slot low high. sym (is_named-empty image leaf.tree.root slot name (null_leaf image leaf slot c.requires.leaf c.if-self-eq0.true low high))))

pub in_row-entry-requires : goal.in_row-entry-requires
in_row-entry-requires g c = omega (arith, c.words-words.ensures.long, c.loop-index-test.true)

pub returns-then-is_named-clause-slot : goal.returns-then-is_named-clause-slot
returns-then-is_named-clause-slot g c =
    let image = current_words (g.R.Region.memory c.args.region.now) in
    let leaf = c.args.self.now in
    let test = is_named_in image leaf.tree.root c.args.name.now in
    let index = c.loop-index.index in
    let entry = entry_of image leaf.tree.root leaf.first leaf.count index c.words-words.result.now c.words-words.ensures c.loop-index-test.true in
    sym (find-first test leaf.first leaf.count (leaf.first + index) (omega arith) (omega (arith, c.loop-index-test.true))
    (sym (c.is_named.ensures image leaf.tree.root (leaf.first + index) (rw c.in_row-entry.ensures entry)) ∙ c.if-is_named.true)
    (λ slot low high. from-first test leaf.first slot index low high c.loop-index.invariant))

pub returns-then-is_named-clause-ino : goal.returns-then-is_named-clause-ino
returns-then-is_named-clause-ino g c =
    let leaf = c.args.self.now in
    c.ino.ensures ∙ ap (λ ws. slice_index ws 0) c.in_row-entry.ensures
    ∙ ino_of (current_words (g.R.Region.memory c.args.region.now)) leaf.tree.root leaf.first leaf.count c.loop-index.index c.words-words.result.now c.words-words.ensures c.loop-index-test.true

pub loop-index-preserved : goal.loop-index-preserved
loop-index-preserved g c =
    let image = current_words (g.R.Region.memory c.args.region.now) in
    let leaf = c.args.self.now in
    let test = is_named_in image leaf.tree.root c.args.name.now in
    let index = c.loop-index.index in
    let entry = entry_of image leaf.tree.root leaf.first leaf.count index c.words-words.result.now c.words-words.ensures c.loop-index-test.true in
    below_more (λ k. test (leaf.first + k) ≡ false) index c.loop-index.invariant (sym (c.is_named.ensures image leaf.tree.root (leaf.first + index) (rw c.in_row-entry.ensures entry)) ∙ c.if-is_named.false)

pub returns-clause-slot : goal.returns-clause-slot
returns-clause-slot g c =
    let image = current_words (g.R.Region.memory c.args.region.now) in
    let leaf = c.args.self.now in
    let test = is_named_in image leaf.tree.root c.args.name.now in
    sym (find-nothing test leaf.first leaf.count
    (λ slot low high. from-first test leaf.first slot c.loop-index.index low (omega (arith, high, c.loop-index-test.false)) c.loop-index.invariant))
