use Rattle.std.proofs.Common.{◌≡◌, ◌≤◌, length}
use Rattle.bp_free.specs.Set.{members}
use Rattle.bp_layout.specs.Words.{height_of}
use Rattle.bp_append.specs.Risen.{Rises}
use Rattle.bp_append.proofs.raise.raise.Given as goal

abbrev pub invariant-loop-level : goal.invariant-loop-level
invariant-loop-level g l = record {
  at : l.level ≡ height_of l.top;
  above : height_of l.fn.tree.root ≤ l.level;
  rises : Rises (g.R.Region.memory l.fn.region) (g.R.Region.memory l.region) (members l.fn.blocks) (members l.blocks) l.fn.tree.root l.top (height_of l.fn.tree.root) l.level l.wanted.from l.wanted.to l.bytes;
  room : length l.blocks ≡ length l.fn.blocks;
}
