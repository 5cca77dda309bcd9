use Rattle.std.proofs.Common.{◌-◌, ◌*◌, ◌≤◌}
use Rattle.std.specs.List.{slice_index}
use Rattle.bp_cow.specs.Copies.{HoldsPrefix}
use Rattle.bp_cow.proofs.copies.store_pieces.Given as goal

abbrev pub invariant-loop-piece : goal.invariant-loop-piece
invariant-loop-piece g l = record {
  most : l.piece ≤ l.pieces;
  prefix : HoldsPrefix l.to (slice_index l.words) (8 * l.piece) (g.R.Region.memory l.fn.region) (g.R.Region.memory l.region);
}

abbrev pub decreases-loop-piece : goal.decreases-loop-piece
decreases-loop-piece g l = l.pieces - l.piece
