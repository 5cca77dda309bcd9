use Rattle.std.proofs.Common.{◌≡◌, ℕ, ◌+◌, ◌-◌, ◌*◌, ◌≤◌, min, length}
use Rattle.bp_free.specs.Set.{members}
use Rattle.bp_layout.specs.Tree.{span}
use Rattle.bp_append.specs.Given.{given_at}
use Rattle.bp_append.proofs.FillLaws.{FillsUpto}
use Rattle.bp_append.proofs.fill.+fill.Given as goal

abbrev pub decreases-make : goal.decreases-make
decreases-make g l = 2 * l.level + 1

abbrev pub decreases-fill : goal.decreases-fill
decreases-fill g l = 2 * l.node.level

abbrev pub invariant-fill-loop-slot : goal.invariant-fill-loop-slot
invariant-fill-loop-slot g l = record {
  first : ℕ;
  at : l.low ≡ l.node.start + first * span (l.node.level - 1);
  reached : first ≤ l.slot;
  most : l.slot ≤ 512;
  fills : FillsUpto (g.R.Region.memory l.fn.region) (g.R.Region.memory l.region) (members l.fn.blocks) (members l.blocks) l.node.block (l.node.level - 1) l.node.start l.low first l.slot
      l.wanted.from l.wanted.to (min (l.wanted.to - l.node.start) (span l.node.level)) (given_at l.wanted.from l.bytes l.node.start);
  room : length l.blocks ≡ length l.fn.blocks;
}
