-- Preconditions for a change after its thaw.
use Rattle.std.specs.Prelude.{◌≡◌, ◌+◌, ◌≤◌, ℕ, [], Bool, length}
use Rattle.bp_free.specs.Set.{Set, members}
use Rattle.bp_free.specs.declared.parts.Parts.{Parts}
use Rattle.bp_layout.specs.Need.{Change, need}
use Rattle.bp_layout.specs.Thaw.{thawed}
use Rattle.bp_changes.specs.Performs.{room_for}
use Rattle.bp_changes.specs.Sets.{in_snapshot_of}
use Rattle.pm_region.specs.Memory.{Memory, current_words, room_in}

-- No block is left to thaw, as many blocks are free as the change needs, and the log has room for it.
pub record IsThawedFor (in_snapshot : ℕ → Bool) (memory : Memory) (blocks : Set) (change : Change) : Type 0 where
  pub clear : thawed (current_words memory) in_snapshot change ≡ []
  pub enough : need (current_words memory) change ≤ length (members blocks)
  pub room : room_for (need (current_words memory) change) ≤ room_in memory + 2

-- `IsThawedFor` for the parts of a file system.
abbrev pub AreThawedFor : {R : Type 0} → (R → Memory) → Parts R → Change → Type 0
AreThawedFor memory parts change = IsThawedFor (in_snapshot_of parts) (memory parts.region) parts.free_blocks change
