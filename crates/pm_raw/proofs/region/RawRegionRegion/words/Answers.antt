use Rattle.std.proofs.Common.{◌∙◌, arith, sym}
use Rattle.pm_raw.proofs.RegionLaws.{sizes}
use Rattle.pm_raw.proofs.region.RawRegionRegion.words.Goals as goal

pub returns-clause-count : goal.returns-clause-count
returns-clause-count c =
    let reported = sizes c.self.inside _ c.self.invariant c.self.view_is in
    c.len.ensures ∙ sym reported.base

pub returns-clause-few : goal.returns-clause-few
returns-clause-few c =
    let reported = sizes c.self.inside _ c.self.invariant c.self.view_is in
    omega (arith, reported.base, c.self.invariant.few)
