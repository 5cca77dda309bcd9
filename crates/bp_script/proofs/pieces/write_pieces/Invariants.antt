use Rattle.std.proofs.Common.{drop, take, flat_map, length, ◌++◌, ◌≡◌}
use Rattle.bp_script.proofs.pieces.write_pieces.Given as goal

abbrev pub invariant-loop-piece : goal.invariant-loop-piece
invariant-loop-piece l = record {
  text : l.into ≡ flat_map (λ piece. piece.now) (take l.piece-index l.pieces) ++ drop l.end l.initial.into;
  len : l.end ≡ length (flat_map (λ piece. piece.now) (take l.piece-index l.pieces));
}
