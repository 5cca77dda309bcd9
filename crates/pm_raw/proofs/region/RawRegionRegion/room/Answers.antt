use Rattle.std.proofs.Common.{arith}
use Rattle.pm_raw.proofs.RegionLaws.{sizes}
use Rattle.pm_raw.proofs.region.RawRegionRegion.room.Goals as goal

pub returns : goal.returns
returns c =
    let reported = sizes c.self.inside _ c.self.invariant c.self.view_is in
    omega (arith, c.room.ensures, reported.events, reported.capacity)
