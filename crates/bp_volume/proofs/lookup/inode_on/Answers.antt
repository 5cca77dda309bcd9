use Rattle.std.proofs.lemmas.Result.{err_from_is_err_and}
use Rattle.bp_volume.proofs.WalkingLaws.{walk_reported}
use Rattle.bp_volume.proofs.lookup.inode_on.Goals as goal

pub returns-in_err-entry-clause-stopped : goal.returns-in_err-entry-clause-stopped
returns-in_err-entry-clause-stopped g c =
    let p = err_from_is_err_and c.from_residual.result c.from_residual.ensures.1 in
    rw (p.1, p.2) (walk_reported _ c.args.path.now c.walk_by.result _ c.walk_by.ensures.walked c.in_err-entry.ensures.cases)
