use Rattle.std.proofs.Common.{refl}
use Rattle.std.proofs.lemmas.Result.{err_from_is_err_and}
use Rattle.bp_cache.proofs.EffectLaws.{cache_kept}
use Rattle.bp_volume.specs.Carried.CarriesOut.{unchanged}
use Rattle.bp_volume.proofs.StepLaws.{refused_steps}
use Rattle.bp_volume.proofs.write.do_write.Goals as goal

pub returns-in_err-ino-clause-called : goal.returns-in_err-ino-clause-called
returns-in_err-ino-clause-called g c =
    let p = err_from_is_err_and c.from_residual.result c.from_residual.ensures.1 in
    rw (p.1, p.2) (unchanged refl (λ tree stands. refused_steps _ tree _ _ (c.in_err-ino.ensures.refused c.args.offset tree stands)))

pub returns-clause-right : goal.returns-clause-right
returns-clause-right g c = cache_kept _ _ _ c.write_into.ensures.names c.in_ok-ino.ensures.right
