use Rattle.std.proofs.Common.{◌≡◌, ℕ, List, false, ap, sym, ◌∙◌, subst}
use Rattle.std.specs.Option.{is_none}
use Rattle.bp_layout.specs.Paths.{parse}
use Rattle.bp_volume.proofs.PieceLaws.{bad_after, parsed_good, piece_at, same_good}
use Rattle.bp_volume.proofs.batch.has_bad_path.Goals as goal
use Rattle.bp_volume.proofs.batch.has_bad_path.Goals.{else-ne-via-then-ne+else-is_err, else-ne-via-else-ne}

pub loop-piece-preserved : goal.loop-piece-preserved
loop-piece-preserved c =
    let at = piece_at c.args.pieces.now c.loop-piece.piece-index _ c.loop-piece-test.true in
    let good : is_none (parse c.part_of-path.result.now) ≡ false =
    elim c.else-ne.branch [
      | else-ne-via-then-ne+else-is_err w ↦ parsed_good w.parse.result _ w.parse.ensures.ok (λ path is. ap is_none is) (sym w.is_err.ensures.value ∙ w.if-is_err.false)
      | else-ne-via-else-ne w ↦ same_good c.part_of-path.result.now c.loop-piece.good.now (sym c.ne.ensures ∙ w.if-ne.false) c.loop-piece.invariant.good
    ] in
    record {
      left = bad_after c.args.text.now c.args.pieces.now c.loop-piece.piece-index _ at (subst (λ (path : List ℕ). is_none (parse path) ≡ false) c.part_of-path.ensures good) ∙ c.loop-piece.invariant.left;
      good = good;
    }
