use Rattle.std.proofs.lemmas.Result.{err_from_is_err_and}
use Rattle.bp_plain.specs.Calls.Refusal.{is_root}
use Rattle.bp_volume.proofs.RenameLaws.{source_stops, target_stops}
use Rattle.bp_volume.proofs.rename.found_ends.Goals as goal

pub returns-in_err-source-clause-refused : goal.returns-in_err-source-clause-refused
returns-in_err-source-clause-refused g c =
    let p = err_from_is_err_and c.from_residual.result c.from_residual.ensures.1 in
    rw (p.1, p.2) (source_stops _ c.args.from.now c.args.to.now c.requires.below c.requires.below_too _ (c.in_err-source.ensures.refused is_root))

pub returns-in_err-target-clause-refused : goal.returns-in_err-target-clause-refused
returns-in_err-target-clause-refused g c =
    let p = err_from_is_err_and c.from_residual-in_err-target.result c.from_residual-in_err-target.ensures.1 in
    rw (p.1, p.2) (target_stops _ c.args.from.now c.args.to.now c.requires.below c.requires.below_too _ _ _ c.in_ok-source.ensures.found _ c.in_err-target.ensures.refused)
