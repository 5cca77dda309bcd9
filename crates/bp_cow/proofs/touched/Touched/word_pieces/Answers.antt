use Rattle.std.proofs.Common.{◌≡◌, ◌+◌, ◌<◌, ◌∷◌, true, drop, refl, sym, ◌∙◌, ap, subst}
use Rattle.bp_layout.specs.WordPaths.{WordPath}
use Rattle.bp_cow.specs.Touched.{above, has_block, path_of, tree_live, word_live, word_paths}
use Rattle.bp_cow.proofs.RunsLaws.{has-item, item-here}
use Rattle.bp_cow.proofs.touched.Touched.word_pieces.Goals as goal

pub pieces-requires-clause-height : goal.pieces-requires-clause-height
pieces-requires-clause-height c = c.requires.touched.trees c.tree-item.result (has-item c.args.self.now.trees.now c.loop-tree.tree-index c.tree-item.result c.loop-tree-test.true c.tree-item.is)

pub returns-then-has_block-clause-live : goal.returns-then-has_block-clause-live
returns-then-has_block-clause-live c slot small counted =
    let trees = c.args.self.now.trees.now in
    let tree = c.tree-item.result in
    let way = above (path_of (word_paths c.args.self.now) c.args.i) in
    let is : has_block tree way c.args.depth ≡ true = ap (λ (p : WordPath). has_block tree p c.args.depth) (sym c.word_way-path.ensures) ∙ sym c.has_block.ensures ∙ c.if-has_block.true in
    let here : word_live (tree ∷ drop (c.loop-tree.tree-index + 1) trees) way c.args.depth ≡ tree_live tree way c.args.depth = rw is refl in
    let all : word_live trees way c.args.depth ≡ tree_live tree way c.args.depth =
    c.loop-tree.invariant ∙ ap (λ ts. word_live ts way c.args.depth) (item-here trees c.loop-tree.tree-index tree c.loop-tree-test.true c.tree-item.is) ∙ here in
    c.pieces.ensures.live slot small (subst (λ (p : WordPath). slot < tree_live tree p c.args.depth) (sym c.word_way-path.ensures) (subst (λ n. slot < n) all counted))
