use Rattle.std.proofs.Common.{[], refl, sym, ◌∙◌, subst, arith, rules}
use Rattle.std.proofs.lemmas.Result.{err_from_is_err_and}
use Rattle.pm_region.specs.Memory.{current_words}
use Rattle.bp_calls.specs.Overwritten.{patches_seen}
use Rattle.bp_stands.specs.Pieces.{ArePatches}
use Rattle.bp_stands.specs.Pieces.ArePatches.{none as no_patch}
use Rattle.bp_volume.proofs.PieceLaws.{patch_pushed, paths_after, piece_at, piece_passes, piece_refused}
use Rattle.bp_volume.proofs.batch.patches_for.Goals as goal

pub loop-piece-init : goal.loop-piece-init
loop-piece-init g c = record {
  are = subst (λ patches. ArePatches (current_words (g.R.Region.memory c.args.region.now)) [] (patches_seen patches)) (sym c.new-patches.ensures) no_patch;
  count = search rules;
  left = λ tree stands. refl;
  paths = c.requires.paths;
  last = search rules;
  right = c.requires.right;
}

pub returns-in_err-patch-clause-refused : goal.returns-in_err-patch-clause-refused
returns-in_err-patch-clause-refused g c =
    let p = err_from_is_err_and c.from_residual.result c.from_residual.ensures.1 in
    rw (p.1, p.2)
    (piece_refused _ c.args.text.now c.args.pieces.now c.loop-piece.piece-index _ (piece_at c.args.pieces.now c.loop-piece.piece-index _ c.loop-piece-test.true) _ c.in_err-patch.ensures.refused c.loop-piece.invariant.left)

pub loop-piece-preserved : goal.loop-piece-preserved
loop-piece-preserved g c =
    let at = piece_at c.args.pieces.now c.loop-piece.piece-index _ c.loop-piece-test.true in
    let image = current_words (g.R.Region.memory c.args.region.now) in
    record {
      are = patch_pushed image c.args.text.now c.args.pieces.now c.loop-piece.piece-index _ at _ _ c.in_ok-patch.patch c.push.ensures.items c.loop-piece.invariant.are c.in_ok-patch.ensures.found c.in_ok-patch.ensures.patch;
      count = omega (arith, c.push.ensures.len, c.loop-piece.invariant.count);
      left = λ tree stands. piece_passes image c.args.text.now c.args.pieces.now c.loop-piece.piece-index _ at _ c.in_ok-patch.ensures.found tree stands ∙ c.loop-piece.invariant.left tree stands;
      paths = paths_after image c.args.text.now c.args.pieces.now c.loop-piece.piece-index _ at c.loop-piece.invariant.paths;
      last = c.in_ok-patch.ensures.last;
      right = c.in_ok-patch.ensures.right;
    }
