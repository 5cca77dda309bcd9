use Rattle.std.proofs.Common.{◌≡◌, ◌*◌, ◌/◌, min, length}
use Rattle.pm_region.specs.Memory.{current_words}
use Rattle.bp_spelling.specs.Gathered.{IsGathered}
use Rattle.bp_spelling.proofs.gather.gather.Given as goal

abbrev pub invariant-loop-leaf : goal.invariant-loop-leaf
invariant-loop-leaf g l = record {
  so_far : IsGathered (current_words (g.R.Region.memory l.region)) l.tree.root (l.tree.size / 256) (min (16 * l.leaf) (l.tree.size / 256)) l.entries l.count;
  room : length l.entries ≡ length l.fn.entries;
}
