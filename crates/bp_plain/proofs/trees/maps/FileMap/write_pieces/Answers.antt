use Rattle.std.proofs.Common.{◌∙◌}
use Rattle.bp_plain.proofs.Carried.{next_piece, piece_written}
use Rattle.bp_plain.proofs.trees.maps.FileMap.write_pieces.Goals as goal

pub write_piece-requires : goal.write_piece-requires
write_piece-requires c = c.requires c.loop-piece.piece-index _ c.loop-piece-test.true

pub loop-piece-preserved : goal.loop-piece-preserved
loop-piece-preserved c =
    piece_written c.args.text.now c.args.pieces.now c.loop-piece.piece-index _ (next_piece c.args.pieces.now c.loop-piece.piece-index _ c.loop-piece-test.true)
    c.loop-piece.self c.write_piece.new.self c.in_ok-write_piece.ensures
    ∙ c.loop-piece.invariant
