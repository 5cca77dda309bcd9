use Rattle.std.proofs.Common.{refl}
use Rattle.std.proofs.lemmas.Result.{err_from_is_err_and}
use Rattle.bp_cache.proofs.EffectLaws.{cache_kept}
use Rattle.bp_volume.specs.Carried.CarriesOut.{unchanged}
use Rattle.bp_volume.proofs.AttributeLaws.{set_attribute_stops}
use Rattle.bp_volume.proofs.attributes.do_set_attribute.Goals as goal

pub set_on-requires-clause-at : goal.set_on-requires-clause-at
set_on-requires-clause-at g c = c.in_ok-ino.ensures.found.found

pub set_on-requires-clause-version : goal.set_on-requires-clause-version
set_on-requires-clause-version g c = c.in_ok-ino.ensures.found.version

pub returns-in_err-ino-clause-called : goal.returns-in_err-ino-clause-called
returns-in_err-ino-clause-called g c =
    let p = err_from_is_err_and c.from_residual.result c.from_residual.ensures.1 in
    rw (p.1, p.2) (unchanged refl (set_attribute_stops _ c.args.text.now c.args.number c.args.value _ c.in_err-ino.ensures.refused))

pub returns-clause-right : goal.returns-clause-right
returns-clause-right g c = cache_kept _ _ _ c.set_on.ensures.names c.in_ok-ino.ensures.right
