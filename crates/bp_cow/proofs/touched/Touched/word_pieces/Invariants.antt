use Rattle.std.proofs.Common.{◌≡◌, drop}
use Rattle.bp_cow.specs.Touched.{above, path_of, word_live, word_paths}
use Rattle.bp_cow.proofs.touched.Touched.word_pieces.Given as goal

-- the trees before this one have no node there
abbrev pub invariant-loop-tree : goal.invariant-loop-tree
invariant-loop-tree l =
    let trees = l.self.trees.now in
    let way = above (path_of (word_paths l.self) l.i) in
    word_live trees way l.depth ≡ word_live (drop l.tree-index trees) way l.depth
