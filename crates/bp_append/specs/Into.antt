-- Stores of which at least one goes to each of some blocks.
use Rattle.std.specs.Prelude.{ℕ, List}
use Rattle.pm_epochs.specs.Log.{StoresTo}
use Rattle.bp_layout.specs.Members.{Each}
use Rattle.pm_region.specs.Memory.{Memory}
use Rattle.pm_region.specs.Safe.{AddsMay}
use Rattle.bp_changes.specs.Performs.{InBlock}

-- stores that are allowed (`May`), at most `most_stores` of them, with at least one to each of these blocks
pub record AddsInto (blocks : List ℕ) (May : ℕ → ℕ → Type 0) (most_stores : ℕ) (old new : Memory) : Type 0 where
  pub part : AddsMay May 0 most_stores old new
  pub stored : Each (λ b. StoresTo (InBlock b) part.added) blocks
