use Rattle.std.proofs.Common.{◌≡◌, ℕ, ◌*◌, ◌-◌, ◌<◌, ◌++◌, min, sym, ◌∙◌, ap, arith}
use Rattle.bp_layout.specs.Directory.{entry_count, ino_in}
use Rattle.bp_layout.specs.Words.{Image}
use Rattle.pm_region.specs.Memory.{current_words}
use Rattle.bp_export.specs.Entries.{entries_named}
use Rattle.bp_export.proofs.RowLaws.{leaf_more, null_more, row_at, row_entries}
use Rattle.bp_export.proofs.entries.entries_of.Goals as goal
use Rattle.bp_export.proofs.entries.entries_of.Goals.{in-Some+in_ok-add_row, in_default}

pub add_row-requires : goal.add_row-requires
add_row-requires g c =
    let image : Image = current_words (g.R.Region.memory c.args.region.now) in
    let leaf : ℕ = c.loop-leaf.leaf in
    let live : 16 * leaf < entry_count image c.args.ino = omega (arith, c.leaf_count-leaf-end.ensures.most leaf c.loop-leaf-test.true, c.tree_of-tree.ensures.size) in
    row_entries image c.requires.well_formed c.args.ino c.requires.reached c.requires.directory (16 * leaf) (min 16 (entry_count image c.args.ino - 16 * leaf)) _ (omega (arith, live))
    (row_at image c.args.ino _ _ leaf _ c.tree_of-tree.ensures.root c.tree_of-tree.ensures.size c.in-Some.ensures.some)

pub loop-leaf-preserved : goal.loop-leaf-preserved
loop-leaf-preserved g c =
    let image : Image = current_words (g.R.Region.memory c.args.region.now) in
    let i : ℕ = c.args.ino in
    let leaf : ℕ = c.loop-leaf.leaf in
    let live : 16 * leaf < entry_count image i = omega (arith, c.leaf_count-leaf-end.ensures.most leaf c.loop-leaf-test.true, c.tree_of-tree.ensures.size) in
    elim c.match-entry_row.branch [
      | in-Some+in_ok-add_row w ↦
          w.entries-is
          ∙ w.in_ok-add_row.ensures image i (16 * leaf) _ (row_at image i _ _ leaf _ c.tree_of-tree.ensures.root c.tree_of-tree.ensures.size w.in-Some.ensures.some)
          ∙ ap (λ xs. xs ++ entries_named image i (16 * leaf) (min 16 (entry_count image i - 16 * leaf))) c.loop-leaf.invariant
          ∙ leaf_more image i leaf (entry_count image i) live
      | in_default w ↦
          w.entries-is ∙ c.loop-leaf.invariant
          ∙ null_more image i leaf (entry_count image i) live (λ slot low high. ap (λ r. ino_in image r slot) (sym c.tree_of-tree.ensures.root) ∙ w.in_default.ensures.none slot low high)
    ]

pub returns : goal.returns
returns g c =
    let image : Image = current_words (g.R.Region.memory c.args.region.now) in
    let all : min (16 * c.loop-leaf.leaf) (entry_count image c.args.ino) ≡ entry_count image c.args.ino = omega (arith, c.leaf_count-leaf-end.ensures.all, c.loop-leaf-test.false, c.tree_of-tree.ensures.size) in
    c.loop-leaf.invariant ∙ ap (entries_named image c.args.ino 0) all

pub entry_row-requires-clause-live : goal.entry_row-requires-clause-live
entry_row-requires-clause-live g c = c.leaf_count-leaf-end.ensures.most c.loop-leaf.leaf c.loop-leaf-test.true
