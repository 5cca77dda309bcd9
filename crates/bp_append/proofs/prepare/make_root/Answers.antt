use Rattle.std.proofs.Common.{◌≡◌, suc, ◌+◌, ◌-◌, ◌≤◌, min, max, subst, arith}
use Rattle.bp_free.specs.Set.{members}
use Rattle.bp_layout.specs.Tree.{span}
use Rattle.bp_append.specs.Given.{given_at}
use Rattle.bp_append.specs.Tally.{tally}
use Rattle.bp_append.specs.Filled.{Builds}
use Rattle.bp_append.proofs.GrowLaws.{make_can, roots_made, roots_null, tall_most}
use Rattle.bp_append.proofs.prepare.make_root.Goals as goal

pub make-pointer-requires : goal.make-pointer-requires
make-pointer-requires g c = record {
  can = rw c.height_with-height.ensures
      (make_can c.requires.can c.requires.null c.if-wanted.true);
}

pub returns-then-wanted-clause-roots : goal.returns-then-wanted-clause-roots
returns-then-wanted-clause-roots g c =
    let top : c.word.result ≡ c.make-pointer.result + c.height_with-height.result = omega (arith, c.word.ensures, c.block_of-block.ensures, c.make-pointer.ensures.made.bits) in
    rw (top, c.height_with-height.ensures)
    (roots_made c.requires.can c.requires.null
    (g.R.Region.memory c.make-pointer.new.region) (members c.make-pointer.new.blocks) c.args.bytes.now c.make-pointer.result
    (subst (λ h. Builds (g.R.Region.memory c.args.region.now) (g.R.Region.memory c.make-pointer.new.region) (members c.args.blocks.now) (members c.make-pointer.new.blocks) c.make-pointer.result h (min (c.args.wanted.to - 0) (span h))
    (given_at c.args.wanted.from c.args.bytes.now 0) (c.args.wanted.from ≤ 0) (tally (suc h) (max c.args.wanted.from 0) (min c.args.wanted.to (0 + span h)))) c.height_with-height.ensures c.make-pointer.ensures.made))

pub returns-else-wanted-clause-roots : goal.returns-else-wanted-clause-roots
returns-else-wanted-clause-roots g c =
    let top : c.word-else-wanted.result ≡ c.height_with-height.result = omega (arith, c.word-else-wanted.ensures) in
    rw (top, c.height_with-height.ensures)
    (roots_null c.requires.can c.requires.null c.args.bytes.now c.if-wanted.false)

pub word-requires-clause-height : goal.word-requires-clause-height
word-requires-clause-height g c =
    let low = tall_most c.requires.can c.requires.null in
    omega (arith, low, c.height_with-height.ensures)

pub word-requires-else-wanted-clause-height : goal.word-requires-else-wanted-clause-height
word-requires-else-wanted-clause-height g c =
    let low = tall_most c.requires.can c.requires.null in
    omega (arith, low, c.height_with-height.ensures)
