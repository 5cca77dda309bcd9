use Rattle.std.proofs.Common.{◌≡◌, drop, map}
use Rattle.bp_plain.specs.Plain.{with_pieces}
use Rattle.bp_plain.specs.Seen.{piece_in}
use Rattle.bp_plain.proofs.trees.maps.FileMap.write_pieces.Given as goal

abbrev pub invariant-loop-piece : goal.invariant-loop-piece
invariant-loop-piece l =
    with_pieces l.self (map (piece_in l.text) (drop l.piece-index l.pieces))
    ≡ with_pieces l.fn.self (map (piece_in l.text) l.pieces)
