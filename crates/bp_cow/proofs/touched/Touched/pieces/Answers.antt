use Rattle.std.proofs.Common.{◌≡◌, ℕ, ◌+◌, ◌-◌, ◌/◌, ◌<◌, List, length, sym, ◌∙◌, ap, subst, arith}
use Rattle.std.specs.Prelude.{IfSome, Option, Some}
use Rattle.bp_cow.specs.declared.touched.Touched.{Touched}
use Rattle.bp_cow.specs.declared.ways.Leaf.{Leaf}
use Rattle.bp_cow.specs.declared.ways.Way.{Way}
use Rattle.bp_cow.specs.Leaves.{IsLeaf}
use Rattle.bp_cow.specs.Touched.{above, job_of, live_of, leaf_live, path_of, word_live, word_paths}
use Rattle.bp_cow.specs.Ways.{IsWay}
use Rattle.bp_cow.proofs.LiveLaws.{live-level}
use Rattle.bp_cow.proofs.RunLaws.{length-run_way}
use Rattle.bp_cow.proofs.RunsLaws.{live-word, way-short, way-word}
use Rattle.bp_cow.proofs.touched.Touched.pieces.Goals as goal

-- the length of a way to a leaf
way_long : (touched : Touched) (way : Way) (leaf : Leaf) → IsWay touched way → IsLeaf touched.runs.now touched.runs.now (word_paths touched) way.index leaf.run.now leaf.index → way.len ≡ length leaf.run.now.root.items + leaf.run.now.height
way_long touched way leaf is at = is.len ∙ ap (λ (p : List ℕ). length p) at.way ∙ length-run_way leaf.run.now leaf.index

leaf_of : (touched : Touched) (way : Way) (leaf : Leaf) → IsWay touched way → way.leaf ≡ Some leaf → IsLeaf touched.runs.now touched.runs.now (word_paths touched) way.index leaf.run.now leaf.index
leaf_of touched way leaf is e = subst (λ (o : Option Leaf). IfSome o (λ one. IsLeaf touched.runs.now touched.runs.now (word_paths touched) way.index one.run.now one.index)) e is.leaf

pub overflow_cast-end : goal.overflow_cast-end
overflow_cast-end c = omega (arith, c.requires.way.len, way-short c.args.self.now c.requires.touched c.args.way.now.index c.requires.way.here)

pub block_pieces-requires-clause-level : goal.block_pieces-requires-clause-level
block_pieces-requires-clause-level c =
    let at = leaf_of c.args.self.now c.args.way.now c.in-Some.leaf c.requires.way c.in-Some.is in
    let low = (c.requires.touched.runs c.in-Some.leaf.run.now at.has).low in
    omega (arith, low, way_long c.args.self.now c.args.way.now c.in-Some.leaf c.requires.way at, c.len.ensures.value, c.if-len-depth.true)

pub returns-in-Some-clause-live : goal.returns-in-Some-clause-live
returns-in-Some-clause-live c slot small counted =
    let run = c.in-Some.leaf.run.now in
    let at = leaf_of c.args.self.now c.args.way.now c.in-Some.leaf c.requires.way c.in-Some.is in
    let long = way_long c.args.self.now c.args.way.now c.in-Some.leaf c.requires.way at in
    let up : length run.root.items + run.height - c.args.depth ≡ c.args.way.now.len - c.args.depth = omega (arith, long) in
    let is = live-level run c.in-Some.leaf.index c.args.depth (omega (arith, c.len.ensures.value, c.if-len-depth.true)) (omega (arith, long, c.if-depth-end.true)) in
    c.block_pieces.ensures.live slot small
    (subst (λ l. slot < leaf_live run.size l (run.offset / 4096 + c.in-Some.leaf.index)) up (subst (λ n. slot < n) (at.live c.args.self.now.trees.now c.args.depth ∙ is) counted))

pub word_pieces-requires-clause-depth : goal.word_pieces-requires-clause-depth
word_pieces-requires-clause-depth c =
    let touched = c.args.self.now in
    let way : length ((job_of touched).way c.args.way.now.index) ≡ length (above (path_of (word_paths touched) c.args.way.now.word)) =
    ap (λ (p : List ℕ). length p) (way-word touched.runs.now (word_paths touched) c.args.way.now.index (c.requires.way.none c.in-None.is))
    ∙ ap (λ n. length (above (path_of (word_paths touched) n))) (sym c.requires.way.word) in
    omega (arith, way, c.requires.way.len, c.if-depth-end-2.true)

pub returns-in-None-clause-live : goal.returns-in-None-clause-live
returns-in-None-clause-live c slot small counted =
    let touched = c.args.self.now in
    let is : live_of touched.runs.now touched.trees.now (word_paths touched) c.args.way.now.index c.args.depth
    ≡ word_live touched.trees.now (above (path_of (word_paths touched) c.args.way.now.word)) c.args.depth =
    live-word touched.runs.now touched.trees.now (word_paths touched) c.args.way.now.index c.args.depth (c.requires.way.none c.in-None.is)
    ∙ ap (λ n. word_live touched.trees.now (above (path_of (word_paths touched) n)) c.args.depth) (sym c.requires.way.word) in
    c.word_pieces.ensures.live slot small (subst (λ n. slot < n) is counted)
