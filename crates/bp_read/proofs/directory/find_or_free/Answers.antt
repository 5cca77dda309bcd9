use Rattle.std.proofs.Common.{◌≡◌, ◌-◌, ◌*◌, ◌/◌, ◌<◌, ◌==◌, min, find, sym, ◌∙◌, ap, arith}
use Rattle.std.specs.List.{range_with_len}
use Rattle.std.specs.Prelude.{IfNone}
use Rattle.bp_layout.specs.Directory.{ino_in, is_named_in, empty_slot_in}
use Rattle.pm_region.specs.Memory.{current_words}
use Rattle.bp_read.specs.Spots.{found_slot}
use Rattle.bp_read.proofs.DirectoryLeaves.{in_leaf, leaf-early, leaf-late, first-on, if_none, none_left, known_first}
use Rattle.bp_read.proofs.directory.find_or_free.Goals as goal

pub returns-in-Some-clause-named : goal.returns-in-Some-clause-named
returns-in-Some-clause-named g c =
    let image = current_words (g.R.Region.memory c.args.region.now) in
    let tree = c.args.tree in
    let name = c.args.name.now in
    let number = c.loop-number.number in
    let inside : 16 * number < tree.size / 256 = c.leaf_count-number-end.ensures.most number c.loop-number-test.true in
    let leaf = c.leaf_from-leaf.ensures in
    sym (c.loop-number.invariant.named
    ∙ leaf-early (is_named_in image tree.root name) number (tree.size / 256) inside c.in-Some.found.slot
    (sym (in_leaf (λ root first count. find (is_named_in image root name) (range_with_len first count)) tree c.leaf_from-leaf.result number leaf.tree leaf.first leaf.count) ∙ sym c.find.ensures.slot ∙ ap found_slot c.in-Some.is))

pub loop-number-preserved : goal.loop-number-preserved
loop-number-preserved g c =
    let image = current_words (g.R.Region.memory c.args.region.now) in
    let tree = c.args.tree in
    let name = c.args.name.now in
    let number = c.loop-number.number in
    let inside : 16 * number < tree.size / 256 = c.leaf_count-number-end.ensures.most number c.loop-number-test.true in
    let leaf = c.leaf_from-leaf.ensures in
    let none : IfNone c.loop-number.empty (c.first_empty_after-empty.result ≡ find (λ slot. ino_in image tree.root slot == 0) (range_with_len (16 * number) (min 16 (tree.size / 256 - 16 * number)))) =
    if_none c.loop-number.empty c.first_empty_after-empty.result _ _ c.first_empty_after-empty.ensures.none
    (in_leaf (λ root first count. find (λ slot. ino_in image root slot == 0) (range_with_len first count)) tree c.leaf_from-leaf.result number leaf.tree leaf.first leaf.count) in
    let on = first-on (λ slot. ino_in image tree.root slot == 0) number (tree.size / 256) inside c.loop-number.empty c.first_empty_after-empty.result
    (empty_slot_in image tree.root tree.size) c.loop-number.invariant.some c.loop-number.invariant.none c.first_empty_after-empty.ensures.some none in
    record {
      named = c.loop-number.invariant.named
          ∙ leaf-late (is_named_in image tree.root name) number (tree.size / 256) inside
          (sym (in_leaf (λ root first count. find (is_named_in image root name) (range_with_len first count)) tree c.leaf_from-leaf.result number leaf.tree leaf.first leaf.count) ∙ sym c.find.ensures.slot ∙ ap found_slot c.in_default.is);
      some = on.0;
      none = on.1;
    }

pub returns : goal.returns
returns g c =
    let image = current_words (g.R.Region.memory c.args.region.now) in
    let tree = c.args.tree in
    let left : tree.size / 256 - 16 * c.loop-number.number ≡ 0 = omega (arith, c.leaf_count-number-end.ensures.all, c.loop-number-test.false) in
    record {
      named = sym (c.loop-number.invariant.named ∙ none_left (is_named_in image tree.root c.args.name.now) (16 * c.loop-number.number) (tree.size / 256 - 16 * c.loop-number.number) left);
      free = known_first (λ slot. ino_in image tree.root slot == 0) c.loop-number.empty (empty_slot_in image tree.root tree.size)
          (16 * c.loop-number.number) (tree.size / 256 - 16 * c.loop-number.number) left c.loop-number.invariant.some c.loop-number.invariant.none;
    }
