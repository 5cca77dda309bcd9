use Rattle.std.proofs.Common.{refl}
use Rattle.std.proofs.lemmas.Result.{err_from_is_err_and}
use Rattle.bp_volume.specs.Carried.CarriesOut.{unchanged}
use Rattle.bp_volume.proofs.CreateLaws.{new_stops}
use Rattle.bp_volume.proofs.StepLaws.{refused_steps}
use Rattle.bp_volume.proofs.create.do_create.Goals as goal

pub returns-in_err-new-clause-called : goal.returns-in_err-new-clause-called
returns-in_err-new-clause-called g c =
    let p = err_from_is_err_and c.from_residual.result c.from_residual.ensures.1 in
    rw (p.1, p.2) (unchanged refl (λ tree stands. refused_steps _ tree _ _ (new_stops _ c.args.text.now c.args.kind _ c.in_err-new.ensures.refused tree stands)))
