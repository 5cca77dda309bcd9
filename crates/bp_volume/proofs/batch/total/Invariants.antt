use Rattle.std.proofs.Common.{◌≡◌, ◌*◌, ◌^◌, ◌≤◌, take}
use Rattle.std.specs.List.{sum_by}
use Rattle.bp_volume.proofs.batch.total.Given as goal

abbrev pub invariant-loop-piece : goal.invariant-loop-piece
invariant-loop-piece l = record {
  few : l.total ≤ l.piece-index * 2 ^ 32;
  is : l.total ≡ sum_by (λ piece. piece.bytes.len) (take l.piece-index l.pieces);
}
