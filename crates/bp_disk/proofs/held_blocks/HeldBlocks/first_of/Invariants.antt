use Rattle.std.proofs.Common.{◌-◌, ◌≤◌}
use Rattle.bp_disk.specs.Held.{HasNone}
use Rattle.bp_disk.proofs.held_blocks.HeldBlocks.first_of.Given as goal

abbrev pub invariant-loop-at : goal.invariant-loop-at
invariant-loop-at l = record {
  low : l.fn.from ≤ l.at;
  high : l.at ≤ 65536;
  skipped : HasNone l.self.blocks.items l.fn.from l.at l.held;
}

abbrev pub decreases-loop-at : goal.decreases-loop-at
decreases-loop-at l = 65536 - l.at
