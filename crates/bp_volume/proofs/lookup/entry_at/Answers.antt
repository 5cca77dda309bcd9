use Rattle.std.proofs.lemmas.Result.{IfErr-weaker, IfOk-weaker}
use Rattle.bp_volume.proofs.WalkingLaws.{ok_was}
use Rattle.bp_volume.proofs.lookup.entry_at.Goals as goal

pub returns-clause-found : goal.returns-clause-found
returns-clause-found g c = IfOk-weaker c.entry_on.result _ _ (λ entry found. record { path = c.in_ok-path.path; parsed = ok_was _ c.parse.result _ c.in_ok-path.ensures.cases c.parse.ensures.ok; entry = found }) c.entry_on.ensures.found

pub returns-clause-refused : goal.returns-clause-refused
returns-clause-refused g c = IfErr-weaker c.entry_on.result _ _ (λ error stops tree stands. rw (ok_was _ c.parse.result _ c.in_ok-path.ensures.cases c.parse.ensures.ok) (stops _ tree stands)) c.entry_on.ensures.refused
