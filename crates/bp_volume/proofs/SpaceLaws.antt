-- How many blocks are free and live, by a set that has just the free blocks.
use Rattle.std.proofs.Common.{◌≡◌, ℕ, ◌+◌, ◌<◌, ◌≤◌, length, arith}
use Rattle.bp_calls.proofs.FreeCounts.{free_members}
use Rattle.bp_free.specs.Set.{Set, has, members}
use Rattle.bp_layout.specs.Trees.{AreInSnapshot}
use Rattle.bp_layout.specs.WellFormed.{IsWellFormed}
use Rattle.bp_layout.specs.Whole.{HasSpace}
use Rattle.bp_layout.specs.Words.{Image}
use Rattle.bp_layout.specs.Totals.{HasLive}
use Rattle.bp_scan.proofs.Counting.{few_free, has_live}
use Rattle.bp_changes.specs.Sets.{AreExact}

module _ (image : Image) (wf : IsWellFormed image) (snapshot_blocks blocks inodes : Set) (are : AreInSnapshot image (has snapshot_blocks)) (exact : AreExact image (has snapshot_blocks) blocks inodes) where
  pub space_counted : HasSpace image (length (members blocks))
  space_counted = record { in_snapshot = has snapshot_blocks; are = are; free = free_members image (has snapshot_blocks) blocks exact.free_blocks exact.block_room }

  -- the first block is not free
  pub some_live : length (members blocks) + 1 ≤ length blocks
  some_live =
      let few : length (members blocks) < length blocks = few_free image (has snapshot_blocks) blocks exact.free_blocks (omega (arith, exact.block_room, wf.formatted.sized.at_least)) in
      omega (arith, few)

  pub live_counted : (live : ℕ) → live + length (members blocks) + 1 ≡ length blocks → HasLive image live
  live_counted live sum = has_live image snapshot_blocks blocks live are exact.free_blocks exact.block_room (omega (arith, sum, exact.block_room))
