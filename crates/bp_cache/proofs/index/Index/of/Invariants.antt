use Rattle.std.proofs.Common.{ℕ, ◌<◌, ◌≤◌, length}
use Rattle.bp_cache.specs.Index.{IsIndexed}
use Rattle.pm_region.specs.Memory.{current_words}
use Rattle.bp_cache.proofs.index.Index.of.Given as goal

abbrev pub invariant-loop-slot : goal.invariant-loop-slot
invariant-loop-slot g l = record {
  room : l.slots ≤ length l.index.empties;
  reported : (k : ℕ) → k < l.slot → IsIndexed (current_words (g.R.Region.memory l.region)) l.tree.root k l.index;
}
