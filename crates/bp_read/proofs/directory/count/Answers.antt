use Rattle.std.proofs.Common.{◌≡◌, ◌-◌, ◌*◌, ◌/◌, ◌<◌, ◌==◌, not, min, length, filter, ◌∙◌, arith}
use Rattle.std.specs.List.{range_with_len}
use Rattle.bp_layout.specs.Directory.{ino_in}
use Rattle.pm_region.specs.Memory.{current_words}
use Rattle.bp_read.proofs.DirectoryLeaves.{in_leaf, leaf-count}
use Rattle.bp_read.proofs.directory.count.Goals as goal

pub loop-number-preserved : goal.loop-number-preserved
loop-number-preserved g c =
    let image = current_words (g.R.Region.memory c.args.region.now) in
    let tree = c.args.tree in
    let number = c.loop-number.number in
    let inside : 16 * number < tree.size / 256 = c.leaf_count-number-end.ensures.most number c.loop-number-test.true in
    let leaf = c.leaf_from.ensures in
    let here : c.count_names-names.result ≡ length (filter (λ slot. not (ino_in image tree.root slot == 0)) (range_with_len (16 * number) (min 16 (tree.size / 256 - 16 * number)))) =
    c.count_names-names.ensures.count
    ∙ in_leaf (λ root first count. length (filter (λ slot. not (ino_in image root slot == 0)) (range_with_len first count))) tree c.leaf_from.result number leaf.tree leaf.first leaf.count in
    let parts = leaf-count (λ slot. not (ino_in image tree.root slot == 0)) number (tree.size / 256) inside in
    record {
      counted = omega (arith, here, parts, c.loop-number.invariant.counted);
      few = omega (arith, c.loop-number.invariant.few, c.count_names-names.ensures.few, leaf.leaf.few);
    }
