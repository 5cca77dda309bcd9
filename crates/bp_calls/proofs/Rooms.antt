-- The words and the room of a memory, before and after stores, and places that lie in it.
use Rattle.std.proofs.Common.{◌≡◌, ℕ, ◌+◌, ◌*◌, ◌/◌, ◌%◌, ◌<◌, ◌≤◌, length, ap, arith}
use Rattle.bp_layout.specs.Inode.{ContentStandsAt, root_of, size_of}
use Rattle.bp_layout.specs.Reached.{IsReached}
use Rattle.bp_layout.specs.Tree.{node}
use Rattle.bp_layout.specs.WellFormed.{IsWellFormed}
use Rattle.bp_layout.specs.Words.{block_count, height_of}
use Rattle.pm_region.specs.Memory.{Memory, current_words, room_in}
use Rattle.pm_region.specs.Safe.{AddsMay}
use Rattle.pm_region.proofs.MemoryLaws.{base-adds, length-current_words}
use Rattle.pm_region.proofs.MayLaws.{room_after_may}
use Rattle.bp_calls.proofs.Trees.{live_leaf}

module _ (May : ℕ → ℕ → Type 0) (stores : ℕ) (old new : Memory) (adds : AddsMay May 0 stores old new) where
  pub base_after : length new.base ≡ length old.base
  base_after = ap length (base-adds old new _ adds.adds)

  pub room_after : room_in old ≤ room_in new + stores
  room_after = let left = room_after_may May 0 stores old new adds in omega (arith, left)

-- words in a row of one leaf lie in the memory
pub row_in_range : (memory : Memory) → IsWellFormed (current_words memory) → (t k place count : ℕ) → IsReached (current_words memory) t → 4096 * (k / 512) < size_of (current_words memory) t → k % 512 + count ≤ 512 →
    ContentStandsAt (current_words memory) t k place → place + count ≤ length memory.base
row_in_range memory wf t k place count reached below fits stands =
    let low : node (current_words memory) (root_of (current_words memory) t) (height_of (root_of (current_words memory) t)) (k / 512) < block_count (current_words memory) =
    (wf.sound t reached).in_range _ _ (live_leaf (root_of (current_words memory) t) (size_of (current_words memory) t) (k / 512) below) in
    omega (arith, low, stands.at, fits, wf.formatted.sized.whole, length-current_words memory)
