-- A name that comes in after a thaw takes the inode that it took before.
use Rattle.std.proofs.Common.{ℕ, ◌/◌, ◌<◌, Option, None, Some, sym, subst}
use Rattle.bp_changes.specs.Thawed.{SameShape}
use Rattle.bp_changes.proofs.ReachedOn.{reached_on}
use Rattle.bp_changes.proofs.SameMeaning.{reached-back}
use Rattle.bp_layout.specs.Free.{IsFreeInode, IsLeastFree}
use Rattle.bp_layout.specs.Free.IsLeastFree.{some as a_least, none as no_least}
use Rattle.bp_layout.specs.Reached.IsReached.{inode_file}
use Rattle.bp_layout.specs.WellFormed.{IsWellFormed}
use Rattle.bp_layout.specs.Words.{Image}

-- an inode that is free before is free after it
free_on : (old new : Image) → IsWellFormed old → SameShape old new → (j : ℕ) → IsFreeInode old j → IsFreeInode new j
free_on old new wf shape j free = record {
  low = free.low;
  high = subst (λ s. j < s / 64) (sym (shape.sizes 0 inode_file)) free.high;
  free = λ there. free.free (reached-back old new wf shape.meaning j there);
}

-- and back
free_back : (old new : Image) → IsWellFormed old → SameShape old new → (j : ℕ) → IsFreeInode new j → IsFreeInode old j
free_back old new wf shape j free = record {
  low = free.low;
  high = subst (λ s. j < s / 64) (shape.sizes 0 inode_file) free.high;
  free = λ there. free.free (reached_on old new shape.meaning j there);
}

-- the least of them is the same
pub least_on : (old new : Image) → IsWellFormed old → SameShape old new → (free : Option ℕ) → IsLeastFree old free → IsLeastFree new free
least_on old new wf shape None (no_least nobody) = no_least (λ j free. nobody j (free_back old new wf shape j free))
least_on old new wf shape (Some i) (a_least free first) = a_least (free_on old new wf shape i free) (λ j also. first j (free_back old new wf shape j also))

-- and back
pub least_back : (old new : Image) → IsWellFormed old → SameShape old new → (free : Option ℕ) → IsLeastFree new free → IsLeastFree old free
least_back old new wf shape None (no_least nobody) = no_least (λ j free. nobody j (free_on old new wf shape j free))
least_back old new wf shape (Some i) (a_least free first) = a_least (free_back old new wf shape i free) (λ j also. first j (free_on old new wf shape j also))
