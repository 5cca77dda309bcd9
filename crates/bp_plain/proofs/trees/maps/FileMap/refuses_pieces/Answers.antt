use Rattle.std.proofs.Common.{sym, ◌∙◌}
use Rattle.bp_plain.proofs.Carried.{next_piece, piece_passes, piece_stops}
use Rattle.bp_plain.proofs.trees.maps.FileMap.refuses_pieces.Goals as goal

pub refuses_piece-requires : goal.refuses_piece-requires
refuses_piece-requires c = c.requires c.loop-piece.piece-index _ c.loop-piece-test.true

pub returns-then-is_some : goal.returns-then-is_some
returns-then-is_some c =
    piece_stops c.args.text.now c.args.pieces.now c.loop-piece.piece-index _ (next_piece c.args.pieces.now c.loop-piece.piece-index _ c.loop-piece-test.true)
    c.args.self.now.nodes c.in_ok-found.found (sym c.is_some.ensures ∙ c.if-is_some.true) c.in_ok-found.ensures
    ∙ c.loop-piece.invariant

pub loop-piece-preserved : goal.loop-piece-preserved
loop-piece-preserved c =
    piece_passes c.args.text.now c.args.pieces.now c.loop-piece.piece-index _ (next_piece c.args.pieces.now c.loop-piece.piece-index _ c.loop-piece-test.true)
    c.args.self.now.nodes c.in_ok-found.found (sym c.is_some.ensures ∙ c.if-is_some.false) c.in_ok-found.ensures
    ∙ c.loop-piece.invariant
