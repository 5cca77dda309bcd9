use Rattle.std.proofs.Common.{arith, ap, ap₂, ◌∙◌, sym, refl, ◌+◌, ◌++◌, drop, length, length-append}
use Rattle.bp_script.proofs.Joining.{joined_more, piece_fits, piece_placed}
use Rattle.bp_script.proofs.pieces.write_pieces.Goals as goal

pub put-end-requires : goal.put-end-requires
put-end-requires c = piece_fits c.args.pieces.now c.loop-piece.piece-index c.loop-piece.end _ c.loop-piece.into c.args.into.now c.loop-piece-test.true (omega (arith, c.requires, c.loop-piece.auto.into)) c.loop-piece.invariant.len

pub loop-piece-preserved : goal.loop-piece-preserved
loop-piece-preserved c =
    let more = joined_more c.args.pieces.now c.loop-piece.piece-index _ c.loop-piece-test.true in record {
      text = piece_placed _ _ c.loop-piece.into c.args.into.now _ c.loop-piece.end c.put-end.result c.loop-piece.invariant.text c.loop-piece.invariant.len c.put-end.ensures.text c.put-end.ensures.end
          ∙ ap (λ x. x ++ drop c.put-end.result c.args.into.now) (sym more);
      len = c.put-end.ensures.end ∙ ap₂ (λ x y. x + y) c.loop-piece.invariant.len refl ∙ sym (length-append _ _) ∙ ap length (sym more);
    }
