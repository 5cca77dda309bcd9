use Rattle.std.proofs.Common.{◌≡◌, ◌≢◌, ℕ, ◌<◌, ◌≤◌, sym, ◌∙◌, ap, arith}
use Rattle.pm_region.specs.Memory.{current_words}
use Rattle.bp_layout.specs.Inode.{root_of}
use Rattle.bp_layout.specs.Reached.IsReached.{inode_file}
use Rattle.bp_layout.specs.WellFormed.{IsWellFormed}
use Rattle.bp_layout.specs.Words.{Image, height_of}
use Rattle.bp_thaw.proofs.FindSteps.{low_slot}
use Rattle.bp_thaw.proofs.WayNumbers.{IsInTree, in_tree, present_none, there_file}
use Rattle.bp_thaw.proofs.ways.is_there.Given as given
use Rattle.bp_thaw.proofs.ways.is_there.Goals.{After-height-top, After-number-inode}
use Rattle.bp_thaw.proofs.ways.is_there.Goals as goal

-- the inode file is no higher than any tree
low_top : (image : Image) → IsWellFormed image → height_of (root_of image 0) ≤ 5
low_top image wf = (wf.sound 0 inode_file).low (omega (arith, wf.some_inodes))

no_zero : (n : ℕ) → n ≢ 0 → 0 < n
no_zero n some = omega (arith, some)

-- the height that is read is the inode file's
top_is : (g : given.Over) (c : After-height-top g) → c.height-top.result ≡ height_of (root_of (current_words (g.R.Region.memory c.args.region.now)) 0)
top_is g c = c.height-top.ensures ∙ ap height_of c.inode_file-file.ensures.root

-- below the inode file the number that is read reports an inode
tree : (g : given.Over) (c : After-number-inode g) →
    IsInTree (current_words (g.R.Region.memory c.args.region.now)) c.args.way.now.items c.args.depth c.height-top.result c.number-inode.result
tree g c =
    let top = c.height-top.ensures ∙ ap height_of c.inode_file-file.ensures.root in
    in_tree _ c.requires.well_formed _ c.requires.way _ c.requires.depth _ _ top (omega (arith, c.if-depth-top.false)) c.number-inode.ensures

pub number-requires-clause-few : goal.number-requires-clause-few
number-requires-clause-few g c =
    omega (arith, c.if-depth-top.true, top_is g (goal.at.number-requires-clause-few g c).After-height-top, low_top _ c.requires.well_formed)

pub number-requires-clause-slots : goal.number-requires-clause-slots
number-requires-clause-slots g c = low_slot _ _ c.requires.way

pub is_present-requires-clause-sound : goal.is_present-requires-clause-sound
is_present-requires-clause-sound g c = rw (c.inode_file-file.ensures.root, c.inode_file-file.ensures.size) (c.requires.well_formed.sound 0 inode_file)

pub number-inode-requires-clause-few : goal.number-inode-requires-clause-few
number-inode-requires-clause-few g c = omega (arith, top_is g (goal.at.number-inode-requires-clause-few g c).After-height-top, low_top _ c.requires.well_formed)

pub number-inode-requires-clause-slots : goal.number-inode-requires-clause-slots
number-inode-requires-clause-slots g c = low_slot _ _ c.requires.way

pub tree_of-tree-requires-clause-reached : goal.tree_of-tree-requires-clause-reached
tree_of-tree-requires-clause-reached g c = (tree g (goal.at.tree_of-tree-requires-clause-reached g c).After-number-inode).reached

pub tree_of-tree-requires-clause-inode : goal.tree_of-tree-requires-clause-inode
tree_of-tree-requires-clause-inode g c = (tree g (goal.at.tree_of-tree-requires-clause-inode g c).After-number-inode).some

pub tree_of-tree-requires-clause-few : goal.tree_of-tree-requires-clause-few
tree_of-tree-requires-clause-few g c = omega (arith, c.number-inode.type_inv)

pub returns-then-tree-eq0 : goal.returns-then-tree-eq0
returns-then-tree-eq0 g c =
    let at = tree g (goal.at.returns-then-tree-eq0 g c).After-number-inode in
    sym (at.there ∙ present_none _ _ _ _ _ (sym c.tree_of-tree.ensures.size ∙ c.if-tree-eq0.true))

pub overflow_cast-level : goal.overflow_cast-level
overflow_cast-level g c =
    let at = tree g (goal.at.overflow_cast-level g c).After-number-inode in
    omega (arith, at.low)

pub overflow_sub-level : goal.overflow_sub-level
overflow_sub-level g c =
    let at = tree g (goal.at.overflow_sub-level g c).After-number-inode in
    omega (arith, at.low, c.height.ensures ∙ ap height_of c.tree_of-tree.ensures.root)

pub number-requires-2-clause-few : goal.number-requires-2-clause-few
number-requires-2-clause-few g c =
    let at = tree g (goal.at.number-requires-2-clause-few g c).After-number-inode in
    let some = no_zero _ (λ none. c.if-tree-eq0.false (c.tree_of-tree.ensures.size ∙ none)) in
    omega (arith, at.past, at.low, (c.requires.well_formed.sound _ at.reached).low some)

pub number-requires-2-clause-slots : goal.number-requires-2-clause-slots
number-requires-2-clause-slots g c = low_slot _ _ c.requires.way

pub is_present-requires-2-clause-sound : goal.is_present-requires-2-clause-sound
is_present-requires-2-clause-sound g c =
    let at = tree g (goal.at.is_present-requires-2-clause-sound g c).After-number-inode in
    rw (c.tree_of-tree.ensures.root, c.tree_of-tree.ensures.size) (c.requires.well_formed.sound _ at.reached)

pub returns-then-depth-top : goal.returns-then-depth-top
returns-then-depth-top g c =
    let top = top_is g (goal.at.returns-then-depth-top g c).After-height-top in
    let is = rw (c.inode_file-file.ensures.root, c.inode_file-file.ensures.size, top, c.number.ensures) at c.is_present.ensures in
    is ∙ sym (there_file _ c.requires.well_formed _ c.requires.way _ c.requires.depth (omega (arith, c.if-depth-top.true, top)))

pub returns : goal.returns
returns g c =
    let tree_is = c.tree_of-tree.ensures in
    let is = rw (c.height.ensures, tree_is.root, tree_is.size, c.number-2.ensures) at c.is_present-2.ensures in
    is ∙ sym (tree g (goal.at.returns g c).After-number-inode).there
