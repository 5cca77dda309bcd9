use Rattle.std.proofs.Common.{sym}
use Rattle.std.proofs.lemmas.Result.{err_from_is_err_and}
use Rattle.bp_plain.specs.Plain.{parent_of}
use Rattle.bp_fs.specs.Step.{last_of}
use Rattle.bp_volume.proofs.CreateLaws.{by_parent}
use Rattle.bp_volume.proofs.TargetLaws.{parent_ends}
use Rattle.bp_volume.proofs.WalkingLaws.{fault_reported, ok_was}
use Rattle.bp_volume.proofs.lookup.target_on.Goals as goal

pub returns-clause-found : goal.returns-clause-found
returns-clause-found g c =
    let split = by_parent c.args.path.now c.requires.below in
    c.target_in.ensures c.args.path.now
    (record {
      below = c.requires.below;
      parent = ok_was _ c.walk_parent_by.result _ c.in_ok-dir.ensures.cases (c.walk_parent_by.ensures.lookup (parent_of c.args.path.now) (last_of c.args.path.now) split);
      last = sym (c.last-name.ensures.last (parent_of c.args.path.now) (last_of c.args.path.now) split);
    })

pub returns-in_err-dir-clause-refused : goal.returns-in_err-dir-clause-refused
returns-in_err-dir-clause-refused g c =
    let p = err_from_is_err_and c.from_residual.result c.from_residual.ensures.1 in
    rw (p.1, p.2) (parent_ends _ c.args.path.now _ _ (c.walk_parent_by.ensures.walked (parent_of c.args.path.now) (last_of c.args.path.now) (by_parent c.args.path.now c.requires.below)) (fault_reported c.walk_parent_by.result _ c.in_err-dir.ensures.cases))
