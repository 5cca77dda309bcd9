use Rattle.std.proofs.Common.{◌≡◌, ◌-◌, ◌*◌, ◌/◌, ◌<◌, ◌==◌, not, min, length, filter, ◌∙◌, arith}
use Rattle.std.specs.List.{range_with_len}
use Rattle.bp_layout.specs.Directory.{ino_in}
use Rattle.pm_region.specs.Memory.{current_words}
use Rattle.bp_read.proofs.DirectoryLeaves.{in_leaf, leaf-count}
use Rattle.bp_read.proofs.directory.is_empty.Goals as goal

pub returns-then-count_names-ne0 : goal.returns-then-count_names-ne0
returns-then-count_names-ne0 g c =
    let image = current_words (g.R.Region.memory c.args.region.now) in
    let tree = c.args.tree in
    let number = c.loop-number.number in
    let inside : 16 * number < tree.size / 256 = c.leaf_count-number-end.ensures.most number c.loop-number-test.true in
    let leaf = c.leaf_from.ensures in
    let here : c.count_names.result ≡ length (filter (λ slot. not (ino_in image tree.root slot == 0)) (range_with_len (16 * number) (min 16 (tree.size / 256 - 16 * number)))) =
    c.count_names.ensures.count
    ∙ in_leaf (λ root first count. length (filter (λ slot. not (ino_in image root slot == 0)) (range_with_len first count))) tree c.leaf_from.result number leaf.tree leaf.first leaf.count in
    let parts = leaf-count (λ slot. not (ino_in image tree.root slot == 0)) number (tree.size / 256) inside in
    (λ never. absurd (cc), λ none. absurd (c.if-count_names-ne0.true (omega (arith, here, parts, c.loop-number.invariant, none))))

pub loop-number-preserved : goal.loop-number-preserved
loop-number-preserved g c =
    let image = current_words (g.R.Region.memory c.args.region.now) in
    let tree = c.args.tree in
    let number = c.loop-number.number in
    let inside : 16 * number < tree.size / 256 = c.leaf_count-number-end.ensures.most number c.loop-number-test.true in
    let leaf = c.leaf_from.ensures in
    let here : c.count_names.result ≡ length (filter (λ slot. not (ino_in image tree.root slot == 0)) (range_with_len (16 * number) (min 16 (tree.size / 256 - 16 * number)))) =
    c.count_names.ensures.count
    ∙ in_leaf (λ root first count. length (filter (λ slot. not (ino_in image root slot == 0)) (range_with_len first count))) tree c.leaf_from.result number leaf.tree leaf.first leaf.count in
    let parts = leaf-count (λ slot. not (ino_in image tree.root slot == 0)) number (tree.size / 256) inside in
    omega (arith, here, parts, c.loop-number.invariant, c.if-count_names-ne0.false)
