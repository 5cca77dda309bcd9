use Rattle.std.proofs.lemmas.Result.{IfErr-weaker, IfOk-weaker}
use Rattle.bp_volume.proofs.WalkingLaws.{ok_was}
use Rattle.bp_volume.proofs.rename.ends_at.Goals as goal

pub returns-clause-found : goal.returns-clause-found
returns-clause-found g c =
    IfOk-weaker c.ends_on.result _ _ (λ ends found. record {
      source_path = c.in_ok-source.source;
      source_parsed = ok_was _ c.parse.result _ c.in_ok-source.ensures.cases c.parse.ensures.ok;
      target_path = c.in_ok-target.target;
      target_parsed = ok_was _ c.parse-2.result _ c.in_ok-target.ensures.cases c.parse-2.ensures.ok;
      are = found;
    }) c.ends_on.ensures.found

pub returns-clause-refused : goal.returns-clause-refused
returns-clause-refused g c =
    IfErr-weaker c.ends_on.result _ _
    (λ error stops tree stands. rw (ok_was _ c.parse.result _ c.in_ok-source.ensures.cases c.parse.ensures.ok, ok_was _ c.parse-2.result _ c.in_ok-target.ensures.cases c.parse-2.ensures.ok) (stops tree stands))
    c.ends_on.ensures.refused
