use Rattle.std.proofs.Common.{refl}
use Rattle.std.proofs.lemmas.Result.{err_from_is_err_and}
use Rattle.bp_volume.specs.Carried.CarriesOut.{unchanged}
use Rattle.bp_volume.proofs.StepLaws.{refused_steps}
use Rattle.bp_volume.proofs.link.do_link.Goals as goal

pub link_ends-requires-clause-well_formed : goal.link_ends-requires-clause-well_formed
link_ends-requires-clause-well_formed g c = c.requires.ready.well_formed.first

pub returns-in_err-ends-clause-called : goal.returns-in_err-ends-clause-called
returns-in_err-ends-clause-called g c =
    let p = err_from_is_err_and c.from_residual.result c.from_residual.ensures.1 in
    rw (p.1, p.2) (unchanged refl (λ tree stands. refused_steps _ tree _ _ (c.in_err-ends.ensures.refused tree stands)))
