use Rattle.std.proofs.Common.{◌==◌, not, inl, inr, slice_index, sym, ◌∙◌, ap, arith}
use Rattle.bp_layout.specs.Directory.{ino_in}
use Rattle.pm_region.specs.Memory.{current_words}
use Rattle.bp_read.proofs.Counting.{is_some, is_none, count_on, none_counted}
use Rattle.bp_layout.proofs.EntryWords.{ino_of}
use Rattle.bp_read.proofs.EntryWords.{null_leaf}
use Rattle.bp_read.proofs.leaf.Leaf.count_names.Goals as goal
use Rattle.bp_read.proofs.leaf.Leaf.count_names.Goals.{then-ino-ne0, else-ino-ne0}

pub returns-then-self-eq0-clause-count : goal.returns-then-self-eq0-clause-count
returns-then-self-eq0-clause-count g c =
    let image = current_words (g.R.Region.memory c.args.region.now) in
    let leaf = c.args.self.now in
    sym (none_counted (λ slot. not (ino_in image leaf.tree.root slot == 0)) leaf.first leaf.count
    (λ slot low high. is_none _ (null_leaf image leaf slot c.requires c.if-self-eq0.true low high)))

pub in_row-requires : goal.in_row-requires
in_row-requires g c = omega (arith, c.words-words.ensures.long, c.loop-index-test.true)

pub loop-index-preserved : goal.loop-index-preserved
loop-index-preserved g c =
    let image = current_words (g.R.Region.memory c.args.region.now) in
    let leaf = c.args.self.now in
    let loop = c.loop-index in
    let here = c.ino.ensures ∙ ap (λ ws. slice_index ws 0) c.in_row.ensures ∙ ino_of image leaf.tree.root leaf.first leaf.count loop.index c.words-words.result.now c.words-words.ensures c.loop-index-test.true in
    let on = count_on (λ slot. not (ino_in image leaf.tree.root slot == 0)) loop.names c.if-ino-ne0.names leaf.first loop.index leaf.count _ c.loop-index-test.true loop.invariant.counted in
    elim c.if-ino-ne0.branch [
      | then-ino-ne0 w ↦ record {
        counted = on (inl (is_some _ (λ none. w.if-ino-ne0.true (here ∙ none)), w.names-is));
        few = omega (arith, w.names-is);
      }
      | else-ino-ne0 w ↦ record {
        counted = on (inr (is_none _ (sym here ∙ w.if-ino-ne0.false), w.names-is));
        few = omega (arith, w.names-is);
      }
    ]
