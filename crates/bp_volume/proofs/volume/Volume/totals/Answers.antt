use Rattle.std.proofs.Common.{subst}
use Rattle.bp_layout.specs.Words.{Image}
use Rattle.bp_layout.specs.Totals.{HasTotals}
use Rattle.bp_volume.proofs.ViewLaws.{cached_rescanned, served_is}
use Rattle.bp_volume.proofs.volume.Volume.totals.Goals as goal

pub invariant_of-self : goal.invariant_of-self
invariant_of-self g c =
    cached_rescanned c.self.inside.parts c.rescan.new.parts _ _ _ c.self.invariant c.rescan.ensures.region c.rescan.ensures.exact c.rescan.ensures.snapshot_blocks c.rescan.ensures.pending

pub returns-clause-totals : goal.returns-clause-totals
returns-clause-totals g c =
    subst (λ (image : Image). HasTotals image c.rescan.result) (served_is c.self.inside.parts.region _ c.self.invariant.roles c.self.view_is) c.rescan.ensures.totals
