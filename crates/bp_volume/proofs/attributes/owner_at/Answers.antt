use Rattle.std.proofs.Common.{◌∙◌, sym, ap}
use Rattle.std.proofs.lemmas.Result.{IfErr-weaker, IfOk-weaker}
use Rattle.bp_limits.specs.CallLimits.{allows_attributes}
use Rattle.bp_volume.proofs.AttributeLaws.{earlier_allow_none, version_stops, walk_stops}
use Rattle.bp_volume.proofs.WalkingLaws.{ok_was}
use Rattle.bp_volume.proofs.attributes.owner_at.Goals as goal

pub returns-in-One-clause-refused : goal.returns-in-One-clause-refused
returns-in-One-clause-refused g c =
    version_stops _ c.args.text.now c.in_ok-path.path (ok_was _ c.parse.result _ c.in_ok-path.ensures.cases c.parse.ensures.ok)
    (ap allows_attributes (sym c.version.ensures) ∙ earlier_allow_none c.version.result c.in-One.is)

pub returns-in-Three-clause-found : goal.returns-in-Three-clause-found
returns-in-Three-clause-found g c =
    IfOk-weaker c.inode_on.result _ _ (λ i found. record {
      found = record { path = c.in_ok-path.path; parsed = ok_was _ c.parse.result _ c.in_ok-path.ensures.cases c.parse.ensures.ok; inode = found };
      version = ap allows_attributes (sym c.version.ensures ∙ c.in-Three.is);
    })
    c.inode_on.ensures.found

pub returns-in-Three-clause-refused : goal.returns-in-Three-clause-refused
returns-in-Three-clause-refused g c =
    IfErr-weaker c.inode_on.result _ _ (λ error stops. walk_stops _ c.args.text.now c.in_ok-path.path _ (ok_was _ c.parse.result _ c.in_ok-path.ensures.cases c.parse.ensures.ok)
    (ap allows_attributes (sym c.version.ensures ∙ c.in-Three.is)) stops)
    c.inode_on.ensures.stopped
