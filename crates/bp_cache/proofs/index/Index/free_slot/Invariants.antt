use Rattle.std.proofs.Common.{length}
use Rattle.bp_free.specs.Set.{members}
use Rattle.bp_cache.specs.Index.{IsIndexOf}
use Rattle.pm_region.specs.Memory.{current_words}
use Rattle.bp_cache.proofs.index.Index.free_slot.Given as goal

abbrev pub invariant-loop-slot : goal.invariant-loop-slot
invariant-loop-slot g l = IsIndexOf (current_words (g.R.Region.memory l.region)) l.tree.root l.tree.size l.self

abbrev pub decreases-loop-slot : goal.decreases-loop-slot
decreases-loop-slot g l = length (members l.self.empties)
