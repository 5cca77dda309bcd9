use Rattle.std.proofs.Common.{◌*◌, ◌/◌, ◌<◌, ◌==◌, find, sym, ◌∙◌}
use Rattle.std.specs.List.{range_with_len}
use Rattle.bp_layout.specs.Directory.{ino_in}
use Rattle.pm_region.specs.Memory.{current_words}
use Rattle.bp_read.proofs.DirectoryLeaves.{in_leaf, leaf-early, leaf-late}
use Rattle.bp_read.proofs.directory.free_slot.Goals as goal

pub returns-in-Some : goal.returns-in-Some
returns-in-Some g c =
    let image = current_words (g.R.Region.memory c.args.region.now) in
    let tree = c.args.tree in
    let number = c.loop-number.number in
    let inside : 16 * number < tree.size / 256 = c.leaf_count-number-end.ensures.most number c.loop-number-test.true in
    let leaf = c.leaf_from-leaf.ensures in
    sym (c.loop-number.invariant
    ∙ leaf-early (λ slot. ino_in image tree.root slot == 0) number (tree.size / 256) inside c.in-Some.slot
    (sym (in_leaf (λ root first count. find (λ slot. ino_in image root slot == 0) (range_with_len first count)) tree c.leaf_from-leaf.result number leaf.tree leaf.first leaf.count) ∙ sym c.first_empty.ensures ∙ c.in-Some.is))

pub loop-number-preserved : goal.loop-number-preserved
loop-number-preserved g c =
    let image = current_words (g.R.Region.memory c.args.region.now) in
    let tree = c.args.tree in
    let number = c.loop-number.number in
    let inside : 16 * number < tree.size / 256 = c.leaf_count-number-end.ensures.most number c.loop-number-test.true in
    let leaf = c.leaf_from-leaf.ensures in
    c.loop-number.invariant
    ∙ leaf-late (λ slot. ino_in image tree.root slot == 0) number (tree.size / 256) inside
    (sym (in_leaf (λ root first count. find (λ slot. ino_in image root slot == 0) (range_with_len first count)) tree c.leaf_from-leaf.result number leaf.tree leaf.first leaf.count) ∙ sym c.first_empty.ensures ∙ c.in_default.is)
