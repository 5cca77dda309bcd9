use Rattle.std.proofs.Common.{◌≡◌, ◌-◌, ◌*◌, ◌/◌, ◌<◌, ◌+◌, ◌==◌, find, sym, ◌∙◌, arith}
use Rattle.std.specs.List.{range_with_len}
use Rattle.bp_layout.specs.Directory.{ino_in, is_named_in}
use Rattle.pm_region.specs.Memory.{current_words}
use Rattle.bp_read.specs.Spots.{found_slot}
use Rattle.bp_read.proofs.DirectoryLeaves.{first_goes_on, first_of_all, found_goes_on, found_is_first, if_none, in_leaf, ino_kept}
use Rattle.bp_read.proofs.directory.find_both.Goals as goal
use Rattle.bp_read.proofs.directory.find_both.Goals.{else-loop-number-test, then-loop-number-test+then-is_some+then-is_some-2}

pub loop-number-preserved : goal.loop-number-preserved
loop-number-preserved g c =
    let image = current_words (g.R.Region.memory c.args.region.now) in
    let tree = c.args.tree in
    let number = c.loop-number.number in
    let inside : 16 * number < tree.size / 256 = c.leaf_count-number-end.ensures.most number c.loop-number-test.true in
    let leaf = c.leaf_from-leaf.ensures in
    record {
      found = found_goes_on (λ root. is_named_in image root c.args.one.now) tree c.leaf_from-leaf.result number inside leaf.tree leaf.first leaf.count
          c.loop-number.found c.find_after-found.result c.loop-number.invariant.found c.find_after-found.ensures.some c.find_after-found.ensures.slot;
      named = found_goes_on (λ root. is_named_in image root c.args.other.now) tree c.leaf_from-leaf.result number inside leaf.tree leaf.first leaf.count
          c.loop-number.named c.find_after-named.result c.loop-number.invariant.named c.find_after-named.ensures.some c.find_after-named.ensures.slot;
      free = first_goes_on (λ slot. ino_in image tree.root slot == 0) number (tree.size / 256) inside c.loop-number.free c.first_empty_after-free.result c.loop-number.invariant.free
          c.first_empty_after-free.ensures.some
          (if_none c.loop-number.free c.first_empty_after-free.result _ _ c.first_empty_after-free.ensures.none
          (in_leaf (λ root first count. find (λ slot. ino_in image root slot == 0) (range_with_len first count)) tree c.leaf_from-leaf.result number leaf.tree leaf.first leaf.count));
      ino = ino_kept (ino_in image tree.root) c.loop-number.found c.find_after-found.result c.loop-number.invariant.ino c.find_after-found.ensures.some
          (rw (← leaf.tree) c.find_after-found.ensures.ino);
    }

pub returns-clause-slot : goal.returns-clause-slot
returns-clause-slot g c =
    let image = current_words (g.R.Region.memory c.args.region.now) in
    let tree = c.args.tree in
    let number = c.loop-number.number in
    elim c.loop-number-test.branch [
      | else-loop-number-test w ↦
          let left : tree.size / 256 - 16 * number ≡ 0 = omega (arith, c.leaf_count-number-end.ensures.all, w.loop-number-test.false) in
          rw w.found-is (first_of_all (is_named_in image tree.root c.args.one.now) number (tree.size / 256) (found_slot c.loop-number.found) left c.loop-number.invariant.found)
      | then-loop-number-test+then-is_some+then-is_some-2 w ↦
          let inside : 16 * number < tree.size / 256 = c.leaf_count-number-end.ensures.most number w.loop-number-test.true in
          let leaf = w.leaf_from-leaf.ensures in
          rw w.found-is
          (found_is_first (is_named_in image tree.root c.args.one.now) (number + 1) (tree.size / 256) w.find_after-found.result (sym w.is_some.ensures ∙ w.if-is_some.true)
          (found_goes_on (λ root. is_named_in image root c.args.one.now) tree w.leaf_from-leaf.result number inside leaf.tree leaf.first leaf.count
          c.loop-number.found w.find_after-found.result c.loop-number.invariant.found w.find_after-found.ensures.some w.find_after-found.ensures.slot))
    ]

pub returns-clause-named : goal.returns-clause-named
returns-clause-named g c =
    let image = current_words (g.R.Region.memory c.args.region.now) in
    let tree = c.args.tree in
    let number = c.loop-number.number in
    c.spot_of.ensures.named
    ∙ (elim c.loop-number-test.branch [
      | else-loop-number-test w ↦
          let left : tree.size / 256 - 16 * number ≡ 0 = omega (arith, c.leaf_count-number-end.ensures.all, w.loop-number-test.false) in
          rw w.named-is (first_of_all (is_named_in image tree.root c.args.other.now) number (tree.size / 256) (found_slot c.loop-number.named) left c.loop-number.invariant.named)
      | then-loop-number-test+then-is_some+then-is_some-2 w ↦
          let inside : 16 * number < tree.size / 256 = c.leaf_count-number-end.ensures.most number w.loop-number-test.true in
          let leaf = w.leaf_from-leaf.ensures in
          rw w.named-is
          (found_is_first (is_named_in image tree.root c.args.other.now) (number + 1) (tree.size / 256) w.find_after-named.result (sym w.is_some-then-is_some.ensures ∙ w.if-is_some-2.true)
          (found_goes_on (λ root. is_named_in image root c.args.other.now) tree w.leaf_from-leaf.result number inside leaf.tree leaf.first leaf.count
          c.loop-number.named w.find_after-named.result c.loop-number.invariant.named w.find_after-named.ensures.some w.find_after-named.ensures.slot))
    ])
