use Rattle.std.proofs.lemmas.Result.{IfErr-weaker, IfOk-weaker}
use Rattle.bp_volume.proofs.WalkingLaws.{ok_was}
use Rattle.bp_volume.proofs.lookup.file_at.Goals as goal

pub returns-clause-found : goal.returns-clause-found
returns-clause-found g c = IfOk-weaker c.file_on.result _ _ (λ file found. record { path = c.in_ok-path.path; parsed = ok_was _ c.parse.result _ c.in_ok-path.ensures.cases c.parse.ensures.ok; inode = found }) c.file_on.ensures.found

pub returns-clause-refused : goal.returns-clause-refused
returns-clause-refused g c = IfErr-weaker c.file_on.result _ _ (λ error stops tree stands. rw (ok_was _ c.parse.result _ c.in_ok-path.ensures.cases c.parse.ensures.ok) (stops tree stands)) c.file_on.ensures.refused
