use Rattle.std.proofs.Common.{◌≡◌, ℕ, ◌+◌, ◌-◌, ◌*◌, ◌<◌, ◌≤◌, List, ◌++◌, length, slice_index, min, take, sym, ◌∙◌, ap, subst, arith}
use Rattle.std.specs.List.{filter_map, range_with_len}
use Rattle.bp_layout.specs.Directory.{entry_count}
use Rattle.bp_layout.specs.Inode.{root_of}
use Rattle.bp_layout.specs.Tree.{content_word}
use Rattle.bp_layout.specs.Words.{Image}
use Rattle.pm_region.specs.Memory.{current_words}
use Rattle.bp_layout.specs.EntryWords.{IsRow}
use Rattle.bp_calls.specs.Asked.{entry_seen}
use Rattle.bp_calls.proofs.RowLaws.{leaf_row, leaf_more, null_leaf_more}
use Rattle.bp_calls.proofs.listing.entries.Goals as goal
use Rattle.bp_calls.proofs.listing.entries.Goals.{in-Some+in_ok-list_row, in_default}

-- the row that is listed, stated by the inode's root
row_here : (image : Image) (i root leaf count : ℕ) (words : List ℕ) → root ≡ root_of image i → length words ≡ 512 → ((k : ℕ) → k < 512 → slice_index words k ≡ content_word image root (512 * leaf + k)) →
    count ≤ 16 → IsRow image (root_of image i) (16 * leaf) count (take (32 * count) words)
row_here image i root leaf count words is long each few = subst (λ r. IsRow image r (16 * leaf) count (take (32 * count) words)) is (leaf_row image root leaf count words long each few)

pub list_row-requires-clause-entries : goal.list_row-requires-clause-entries
list_row-requires-clause-entries g c =
    let few : c.min-count.result ≤ 16 = omega (arith, c.min-count.ensures) in
    record {
      directory = c.args.ino;
      first = 16 * c.loop-leaf.leaf;
      count = c.min-count.result;
      reached = c.requires.reached;
      kind = c.requires.directory;
      live = omega (arith, c.min-count.ensures, c.tree_of-tree.ensures.size, c.div_ceil-leaf-end.ensures);
      row = row_here _ c.args.ino c.tree_of-tree.result.root c.loop-leaf.leaf c.min-count.result c.in-Some.words.now c.tree_of-tree.ensures.root c.in-Some.ensures.len c.in-Some.ensures.words few;
    }

pub loop-leaf-preserved : goal.loop-leaf-preserved
loop-leaf-preserved g c =
    let image : Image = current_words (g.R.Region.memory c.args.region.now) in
    let i : ℕ = c.args.ino in
    let leaf : ℕ = c.loop-leaf.leaf in
    let total : ℕ = entry_count image i in
    let live : 16 * leaf < total = omega (arith, c.tree_of-tree.ensures.size, c.div_ceil-leaf-end.ensures, c.loop-leaf-test.true) in
    elim c.match-leaf_words.branch [
      | in-Some+in_ok-list_row w ↦
          let count : ℕ = w.min-count.result in
          let few : count ≤ 16 = omega (arith, w.min-count.ensures) in
          let count_is : count ≡ min 16 (total - 16 * leaf) = omega (arith, w.min-count.ensures, c.tree_of-tree.ensures.size) in
          let row = row_here image i c.tree_of-tree.result.root leaf count w.in-Some.words.now c.tree_of-tree.ensures.root w.in-Some.ensures.len w.in-Some.ensures.words few in
          w.listing-is
          ∙ w.in_ok-list_row.ensures i (16 * leaf) count row
          ∙ ap (λ xs. xs ++ filter_map (entry_seen image i) (range_with_len (16 * leaf) count)) c.loop-leaf.invariant
          ∙ leaf_more image i leaf total live count count_is
      | in_default w ↦
          w.listing-is ∙ c.loop-leaf.invariant
          ∙ null_leaf_more image i leaf total live (λ k low. ap (λ r. content_word image r (512 * leaf + k)) (sym c.tree_of-tree.ensures.root) ∙ w.in_default.ensures.none k low)
    ]
