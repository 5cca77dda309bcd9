-- The behaviour of a file system that is stored in the words of a region.
use Rattle.std.specs.Prelude.{ℕ}
use Rattle.bp_fs.specs.Behaviour.{Behaviour}
use Rattle.bp_fs.specs.Called.{Called}
use Rattle.bp_layout.specs.Totals.{HasLive, HasTotals}
use Rattle.bp_layout.specs.Whole.{HasSpace}
use Rattle.bp_roles.specs.Mounted.{served_words}
use Rattle.pm_region.specs.Memory.{Memory, crashed, drained}

-- These are the numbers of free and of live blocks of the words, as a mount sees them.
pub record HasBlocks (memory : Memory) (free live : ℕ) : Type 0 where
  pub free_blocks : HasSpace (served_words memory) free
  pub live_blocks : HasLive (served_words memory) live

-- The behaviour of a file system whose states are the memories of its region.
abbrev pub by_words : Behaviour Memory
by_words = record {
  memory = λ memory. memory;
  calls = Called;
  drained = drained;
  crashed = crashed;
  space = HasBlocks;
  totals = λ memory totals. HasTotals (served_words memory) totals;
}
