-- The blocks so far have the state.
use Rattle.bp_disk.specs.Held.{Notes}
use Rattle.bp_disk.proofs.held_blocks.HeldBlocks.set.Given as goal

abbrev pub invariant-loop-i : goal.invariant-loop-i
invariant-loop-i l = Notes l.initial.first l.i l.held l.fn.self.blocks.items l.self.blocks.items
