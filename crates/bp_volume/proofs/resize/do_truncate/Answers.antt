use Rattle.std.proofs.Common.{refl}
use Rattle.std.proofs.lemmas.Result.{err_from_is_err_and}
use Rattle.bp_cache.proofs.EffectLaws.{cache_kept}
use Rattle.bp_volume.specs.Carried.CarriesOut.{unchanged}
use Rattle.bp_volume.proofs.FileLaws.{truncate_stops}
use Rattle.bp_volume.proofs.resize.do_truncate.Goals as goal

pub returns-in_err-file-clause-called : goal.returns-in_err-file-clause-called
returns-in_err-file-clause-called g c =
    let p = err_from_is_err_and c.from_residual.result c.from_residual.ensures.1 in
    rw (p.1, p.2) (unchanged refl (truncate_stops _ c.args.text.now c.args.size _ c.in_err-file.ensures.refused))

pub returns-clause-right : goal.returns-clause-right
returns-clause-right g c = cache_kept _ _ _ c.resize.ensures.names c.in_ok-file.ensures.right
