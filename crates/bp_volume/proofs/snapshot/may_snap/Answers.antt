use Rattle.std.proofs.Common.{◌∙◌, ap, sym}
use Rattle.bp_limits.specs.CallLimits.{allows_snapshot}
use Rattle.bp_volume.proofs.SnapLaws.{later_allows, snap_again, snap_too_old}
use Rattle.bp_volume.proofs.snapshot.may_snap.Goals as goal

pub returns-then-has_second-clause-refused : goal.returns-then-has_second-clause-refused
returns-then-has_second-clause-refused g c = snap_again _ (ap allows_snapshot (sym c.version.ensures) ∙ later_allows c.version.result c.in-Two.is) (sym c.has_second.ensures ∙ c.if-has_second.true)

pub returns-in-One-clause-refused : goal.returns-in-One-clause-refused
returns-in-One-clause-refused g c = snap_too_old _ (sym c.version.ensures ∙ c.in-One.is)
