use Rattle.std.proofs.Common.{◌∙◌, map, refl, sym, arith}
use Rattle.std.proofs.lemmas.Result.{err_from_is_err_and}
use Rattle.bp_cache.proofs.EffectLaws.{cache_kept}
use Rattle.bp_plain.specs.Seen.{piece_in}
use Rattle.bp_plain.proofs.Carried.{sum_lies}
use Rattle.bp_volume.specs.Carried.CarriesOut.{unchanged}
use Rattle.bp_volume.proofs.BatchLaws.{batch_bad, batch_long, batch_stops}
use Rattle.bp_volume.proofs.StepLaws.{refused_steps}
use Rattle.bp_volume.proofs.batch.do_batch.Goals as goal

pub returns-then-has_bad_path-clause-called : goal.returns-then-has_bad_path-clause-called
returns-then-has_bad_path-clause-called g c =
    unchanged refl
    (λ tree stands. refused_steps _ tree _ _ (batch_bad _ (map (piece_in c.args.text.now) c.args.pieces.now) (sym c.has_bad_path.ensures ∙ c.if-has_bad_path.true) tree stands))

pub returns-then-total-gt-MAX_BATCH-clause-called : goal.returns-then-total-gt-MAX_BATCH-clause-called
returns-then-total-gt-MAX_BATCH-clause-called g c =
    let sum = sum_lies c.args.text.now c.args.pieces.now c.requires.lie in
    unchanged refl
    (λ tree stands. refused_steps _ tree _ _
    (batch_long _ (map (piece_in c.args.text.now) c.args.pieces.now) (sym c.has_bad_path.ensures ∙ c.if-has_bad_path.false) (omega (arith, sum, c.total-total.ensures, c.if-total-gt-MAX_BATCH.true)) tree stands))

pub returns-in_err-patches-clause-called : goal.returns-in_err-patches-clause-called
returns-in_err-patches-clause-called g c =
    let sum = sum_lies c.args.text.now c.args.pieces.now c.requires.lie in
    let p = err_from_is_err_and c.from_residual.result c.from_residual.ensures.1 in
    rw (p.1, p.2)
    (unchanged refl
    (λ tree stands. refused_steps _ tree _ _
    (batch_stops _ (map (piece_in c.args.text.now) c.args.pieces.now) (sym c.has_bad_path.ensures ∙ c.if-has_bad_path.false) (omega (arith, sum, c.total-total.ensures, c.if-total-gt-MAX_BATCH.false)) _
    c.in_err-patches.ensures.refused tree stands)))

pub returns-clause-right : goal.returns-clause-right
returns-clause-right g c = cache_kept _ _ _ c.batch_into.ensures.names c.in_ok-patches.ensures.right
