use Rattle.std.proofs.Common.{◌≡◌, ◌+◌, ◌==◌, false, slice_index, sym, ◌∙◌, ap, arith, eq-eqb}
use borrow.Author.Count.{below_more}
use Rattle.bp_layout.specs.Directory.{ino_in}
use Rattle.bp_layout.proofs.Finding.{find-first, find-nothing}
use Rattle.pm_region.specs.Memory.{current_words}
use Rattle.bp_layout.proofs.Finding.{unequal}
use Rattle.bp_layout.proofs.EntryWords.{ino_of}
use Rattle.bp_read.proofs.EntryWords.{null_leaf}
use Rattle.bp_read.proofs.DirectoryLeaves.{from-first}
use Rattle.bp_read.proofs.leaf.Leaf.first_empty.Goals as goal

pub returns-then-self-eq0 : goal.returns-then-self-eq0
returns-then-self-eq0 g c =
    let image = current_words (g.R.Region.memory c.args.region.now) in
    let leaf = c.args.self.now in
    sym (find-first (λ slot. ino_in image leaf.tree.root slot == 0) leaf.first leaf.count leaf.first (omega arith) (omega (arith, c.requires.some))
    (eq-eqb _ _ (null_leaf image leaf leaf.first c.requires c.if-self-eq0.true (omega arith) (omega (arith, c.requires.some))))
    (λ slot low high. absurd (omega (arith, low, high))))

pub returns-then-ino-eq0 : goal.returns-then-ino-eq0
returns-then-ino-eq0 g c =
    let image = current_words (g.R.Region.memory c.args.region.now) in
    let leaf = c.args.self.now in
    let index = c.loop-index.index in
    let here = c.ino.ensures ∙ ap (λ ws. slice_index ws 0) c.in_row.ensures ∙ ino_of image leaf.tree.root leaf.first leaf.count index c.words-words.result.now c.words-words.ensures c.loop-index-test.true in
    sym (find-first (λ slot. ino_in image leaf.tree.root slot == 0) leaf.first leaf.count (leaf.first + index) (omega arith) (omega (arith, c.loop-index-test.true))
    (eq-eqb _ _ (sym here ∙ c.if-ino-eq0.true))
    (λ slot low high. from-first (λ slot. ino_in image leaf.tree.root slot == 0) leaf.first slot index low high c.loop-index.invariant))

pub in_row-requires : goal.in_row-requires
in_row-requires g c = omega (arith, c.words-words.ensures.long, c.loop-index-test.true)

pub loop-index-preserved : goal.loop-index-preserved
loop-index-preserved g c =
    let image = current_words (g.R.Region.memory c.args.region.now) in
    let leaf = c.args.self.now in
    let index = c.loop-index.index in
    let here = c.ino.ensures ∙ ap (λ ws. slice_index ws 0) c.in_row.ensures ∙ ino_of image leaf.tree.root leaf.first leaf.count index c.words-words.result.now c.words-words.ensures c.loop-index-test.true in
    below_more (λ k. (ino_in image leaf.tree.root (leaf.first + k) == 0) ≡ false) index c.loop-index.invariant (unequal _ _ (λ none. c.if-ino-eq0.false (here ∙ none)))

pub returns : goal.returns
returns g c =
    let image = current_words (g.R.Region.memory c.args.region.now) in
    let leaf = c.args.self.now in
    sym (find-nothing (λ slot. ino_in image leaf.tree.root slot == 0) leaf.first leaf.count
    (λ slot low high. from-first (λ slot. ino_in image leaf.tree.root slot == 0) leaf.first slot c.loop-index.index low (omega (arith, high, c.loop-index-test.false)) c.loop-index.invariant))
