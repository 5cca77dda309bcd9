use Rattle.std.proofs.Common.{◌≡◌, drop, map}
use Rattle.bp_plain.specs.Plain.{first, piece_refusal}
use Rattle.bp_plain.specs.Seen.{piece_in}
use Rattle.bp_plain.proofs.trees.maps.FileMap.refuses_pieces.Given as goal

abbrev pub invariant-loop-piece : goal.invariant-loop-piece
invariant-loop-piece l =
    first (map (piece_refusal l.self.nodes) (map (piece_in l.text) (drop l.piece-index l.pieces)))
    ≡ first (map (piece_refusal l.self.nodes) (map (piece_in l.text) l.pieces))
