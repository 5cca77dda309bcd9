use Rattle.std.proofs.Common.{◌≡◌, ◌+◌, ◌/◌, length}
use Rattle.pm_region.specs.Memory.{current_words}
use Rattle.bp_spelling.specs.Gathered.{IsGathered}
use Rattle.bp_spelling.proofs.gather.gather_leaf.Given as goal

abbrev pub invariant-loop-k : goal.invariant-loop-k
invariant-loop-k g l = record {
  so_far : IsGathered (current_words (g.R.Region.memory l.region)) l.fn.tree.root (l.fn.tree.size / 256) (l.first + l.k) l.entries l.count;
  room : length l.entries ≡ length l.fn.entries;
}
