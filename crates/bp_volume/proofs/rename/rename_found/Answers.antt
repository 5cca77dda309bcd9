use Rattle.std.proofs.Common.{refl, sym, ◌∙◌}
use Rattle.std.proofs.lemmas.Result.{err_from_is_err_and}
use Rattle.bp_volume.specs.Carried.CarriesOut.{unchanged}
use Rattle.bp_volume.proofs.RenameLaws.{same_stays}
use Rattle.bp_volume.proofs.StepLaws.{refused_steps}
use Rattle.bp_volume.proofs.rename.rename_found.Goals as goal

pub may_move-requires-clause-well_formed : goal.may_move-requires-clause-well_formed
may_move-requires-clause-well_formed g c = c.requires.ready.well_formed.first

pub returns-then-are_same-clause-called : goal.returns-then-are_same-clause-called
returns-then-are_same-clause-called g c =
    unchanged refl (same_stays _ c.args.from.now c.args.to.now c.args.ends.now c.requires.found c.requires.ready.well_formed.first (sym c.are_same.ensures ∙ c.if-are_same.true))

pub returns-in_err-may_move-clause-called : goal.returns-in_err-may_move-clause-called
returns-in_err-may_move-clause-called g c =
    let p = err_from_is_err_and c.from_residual.result c.from_residual.ensures.1 in
    rw (p.1, p.2) (unchanged refl (λ tree stands. refused_steps _ tree _ _ (c.in_err-may_move.ensures.refused tree stands)))
