-- The blocks so far are swapped, and the others not yet.
use Rattle.std.proofs.Common.{◌≡◌, ℕ, ◌<◌, ◌≤◌, length}
use Rattle.bp_disk.specs.Held.{state_of, swapped}
use Rattle.bp_disk.proofs.held_blocks.HeldBlocks.swap.Given as goal

abbrev pub invariant-loop-i : goal.invariant-loop-i
invariant-loop-i l = record {
  size : length l.self.blocks.items ≡ length l.fn.self.blocks.items;
  done : (k : ℕ) → k < l.i → state_of l.self.blocks.items k ≡ swapped (state_of l.fn.self.blocks.items k);
  left : (k : ℕ) → l.i ≤ k → state_of l.self.blocks.items k ≡ state_of l.fn.self.blocks.items k;
}
