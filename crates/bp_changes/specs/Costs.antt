-- The costs of a performed call, from the memory before and after it.
use Rattle.std.specs.Prelude.{◌≡◌, ◌≤◌, ◌∷◌, [], ℕ, Bool}
use Rattle.pm_epochs.specs.declared.event.Event.TheVariants.{CallEnd}
use Rattle.pm_epochs.specs.Log.{StoresTo}
use Rattle.pm_region.specs.Memory.{Adds, Memory, current_words, events_between}
use Rattle.pm_region.specs.Safe.{IsSafe}
use Rattle.bp_layout.specs.Free.{HasFree}
use Rattle.bp_layout.specs.Need.{Change}
use Rattle.bp_layout.specs.Reached.{IsFreeBlock}
use Rattle.bp_layout.specs.Same.{Same}
use Rattle.bp_layout.specs.Thaw.{full_need}
use Rattle.bp_changes.specs.Performs.{InBlock, IsPerformed, IsShort}

-- the call costs no more than its need requires
abbrev pub IsShortBetween : (ℕ → Bool) → Memory → Memory → Change → Type 0
IsShortBetween in_snapshot old new change =
    IsShort (current_words old) (current_words new) in_snapshot change (events_between old new)

-- if this many blocks are free, the call needs no more
abbrev pub NeedsAtMost : (ℕ → Bool) → Memory → Change → ℕ → Type 0
NeedsAtMost in_snapshot old change free =
    HasFree (current_words old) in_snapshot free → full_need (current_words old) in_snapshot change ≤ free

-- the call, with its end-of-call marker, keeps a safe memory safe
abbrev pub StaysSafe : Memory → Memory → Memory → Type 0
StaysSafe old new ended = IsSafe Same old → Adds new ended (CallEnd ∷ []) → IsSafe Same ended

-- a call that needs no block stores to no free block
abbrev pub LeavesFreeBlock : (ℕ → Bool) → Memory → Memory → Change → ℕ → Type 0
LeavesFreeBlock in_snapshot old new change b =
    full_need (current_words old) in_snapshot change ≡ 0 → IsFreeBlock (current_words old) in_snapshot b →
    StoresTo (InBlock b) (events_between old new) → ⊥

-- the property holds for each performed call
abbrev pub ForPerformed : ((ℕ → Bool) → Memory → Memory → Change → Type 0) → Type 0
ForPerformed Holds = (in_snapshot : ℕ → Bool) (old new : Memory) (change : Change) → IsPerformed in_snapshot old new change →
    Holds in_snapshot old new change
