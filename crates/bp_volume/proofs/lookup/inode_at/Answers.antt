use Rattle.std.proofs.lemmas.Result.{IfErr-weaker, IfOk-weaker}
use Rattle.bp_volume.proofs.WalkingLaws.{ok_was}
use Rattle.bp_volume.proofs.lookup.inode_at.Goals as goal

pub returns-clause-found : goal.returns-clause-found
returns-clause-found g c = IfOk-weaker c.inode_on.result _ _ (λ i found. record { path = c.in_ok-path.path; parsed = ok_was _ c.parse.result _ c.in_ok-path.ensures.cases c.parse.ensures.ok; inode = found }) c.inode_on.ensures.found

pub returns-clause-stopped : goal.returns-clause-stopped
returns-clause-stopped g c = IfErr-weaker c.inode_on.result _ _ (λ error stops tree stands. rw (ok_was _ c.parse.result _ c.in_ok-path.ensures.cases c.parse.ensures.ok) (stops tree stands)) c.inode_on.ensures.stopped
