use Rattle.std.proofs.Common.{◌*◌, ◌/◌, ◌<◌, find, sym, ◌∙◌, ap}
use Rattle.std.specs.List.{range_with_len}
use Rattle.bp_layout.specs.Directory.{ino_in, is_named_in}
use Rattle.pm_region.specs.Memory.{current_words}
use Rattle.bp_read.specs.Spots.{found_slot}
use Rattle.bp_read.proofs.DirectoryLeaves.{in_leaf, leaf-early, leaf-late}
use Rattle.bp_read.proofs.directory.find_entry.Goals as goal

pub returns-in-Some-clause-slot : goal.returns-in-Some-clause-slot
returns-in-Some-clause-slot g c =
    let image = current_words (g.R.Region.memory c.args.region.now) in
    let tree = c.args.tree in
    let name = c.args.name.now in
    let number = c.loop-number.number in
    let inside : 16 * number < tree.size / 256 = c.leaf_count-number-end.ensures.most number c.loop-number-test.true in
    let leaf = c.leaf_from-leaf.ensures in
    sym (c.loop-number.invariant
    ∙ leaf-early (is_named_in image tree.root name) number (tree.size / 256) inside c.in-Some.found.slot
    (sym (in_leaf (λ root first count. find (is_named_in image root name) (range_with_len first count)) tree c.leaf_from-leaf.result number leaf.tree leaf.first leaf.count) ∙ sym c.find.ensures.slot ∙ ap found_slot c.in-Some.is))

pub returns-in-Some-clause-ino : goal.returns-in-Some-clause-ino
returns-in-Some-clause-ino g c =
    let image = current_words (g.R.Region.memory c.args.region.now) in
    c.in-Some.ensures.ino ∙ ap (λ t. ino_in image t.root c.in-Some.found.slot) c.leaf_from-leaf.ensures.tree

pub loop-number-preserved : goal.loop-number-preserved
loop-number-preserved g c =
    let image = current_words (g.R.Region.memory c.args.region.now) in
    let tree = c.args.tree in
    let name = c.args.name.now in
    let number = c.loop-number.number in
    let inside : 16 * number < tree.size / 256 = c.leaf_count-number-end.ensures.most number c.loop-number-test.true in
    let leaf = c.leaf_from-leaf.ensures in
    c.loop-number.invariant
    ∙ leaf-late (is_named_in image tree.root name) number (tree.size / 256) inside
    (sym (in_leaf (λ root first count. find (is_named_in image root name) (range_with_len first count)) tree c.leaf_from-leaf.result number leaf.tree leaf.first leaf.count) ∙ sym c.find.ensures.slot ∙ ap found_slot c.in_default.is)
