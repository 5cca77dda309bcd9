use Rattle.std.proofs.Common.{ap, arith, length, sym}
use Rattle.pm_region.specs.Memory.{Memory}
use Rattle.pm_region.proofs.WithinLaws.{within-same}
use Rattle.pm_raw.specs.RawRegion.{undos_of}
use Rattle.pm_raw.specs.Unwound.{events_from}
use Rattle.pm_raw.proofs.KindLaws.{erased-events, within-kinds}
use Rattle.pm_raw.proofs.RegionLaws.{sizes}
use Rattle.pm_raw.proofs.region.RawRegionRegion.event_count.Goals as goal

pub returns-clause-count : goal.returns-clause-count
returns-clause-count c =
    let reported = sizes c.self.inside _ c.self.invariant c.self.view_is in
    omega (arith, c.len.ensures, reported.events)

pub returns-clause-few : goal.returns-clause-few
returns-clause-few c =
    let reported = sizes c.self.inside _ c.self.invariant c.self.view_is in
    omega (arith, c.len.ensures, c.self.invariant.fits, reported.capacity)

pub returns-clause-within : goal.returns-clause-within
returns-clause-within c =
    let region = c.self.inside in
    let undos = undos_of region in
    let events = events_from region.current undos in
    let reported = sizes region _ c.self.invariant c.self.view_is in
    within-same (length region.current) _ events _ (sym reported.base) (ap (λ (m : Memory). m.events) c.self.view_is)
    (within-kinds (length region.current) undos events (sym (erased-events region.current undos)) c.self.invariant.within)
