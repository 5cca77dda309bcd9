use Rattle.std.proofs.Common.{◌+◌, ◌-◌, ◌*◌, ◌≤◌}
use Rattle.bp_layout.specs.Words.{word}
use Rattle.pm_region.specs.Memory.{current_words}
use Rattle.bp_cow.specs.Copies.{HoldsPrefix}
use Rattle.bp_cow.proofs.copies.copy_pieces.Given as goal

abbrev pub invariant-loop-piece : goal.invariant-loop-piece
invariant-loop-piece g l = record {
  most : l.piece ≤ l.pieces;
  prefix : HoldsPrefix l.to (λ slot. word (current_words (g.R.Region.memory l.fn.region)) (512 * l.from + slot)) (8 * l.piece) (g.R.Region.memory l.fn.region) (g.R.Region.memory l.region);
}

abbrev pub decreases-loop-piece : goal.decreases-loop-piece
decreases-loop-piece g l = l.pieces - l.piece
