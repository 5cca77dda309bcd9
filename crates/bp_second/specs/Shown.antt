-- A region with one of its two trees shown as the first.
use Rattle.std.specs.Prelude.{ℕ, []}
use Rattle.pm_region.specs.Memory.{Memory, current_words}
use Rattle.pm_region.specs.declared.region.Region.{Ghosts}
use Rattle.bp_layout.specs.Trees.{snapshot_of}
use Rattle.bp_second.specs.declared.shown.Shown.{Shown}
use Rattle.bp_second.specs.declared.shown.Shown.TheVariants.{First, Snapshot}

-- The current words, with the second tree in place of the first one, after this number of drains. The log has no room,
-- so that nothing can be stored.
abbrev pub second_memory : Memory → ℕ → Memory
second_memory memory drains = record {
  base = snapshot_of (current_words memory);
  events = [];
  capacity = 0;
  drains = drains;
  through = memory.through;
}

-- The memory of the region if it shows its first tree, and `second_memory` of it if it shows its second tree.
abbrev pub shown_memory : {R : Type 0} {region : Ghosts R} → (R → Memory) → Shown R region → Memory
shown_memory memory (First region) = memory region.now
shown_memory memory (Snapshot second) = second_memory (memory second.region.now) second.drains
