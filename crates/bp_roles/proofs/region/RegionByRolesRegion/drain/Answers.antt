use Rattle.std.proofs.Common.{ap, sym, subst, ◌∙◌, ◌≡◌}
use Rattle.bp_roles.specs.Seen.{MemoryByRoles, seen, seen_memory, IsWide}
use Rattle.pm_region.specs.Memory.{drained}
use Rattle.bp_roles.proofs.SeenLaws.{seen-drained, wide-drained}
use Rattle.bp_roles.proofs.HeadLaws.{head-drained}
use Rattle.bp_roles.proofs.region.RegionByRolesRegion.drain.Goals as goal

pub invariant_of-self : goal.invariant_of-self
invariant_of-self g c = (
  subst IsWide (sym c.drain.ensures) (wide-drained (g.R.Region.memory c.self.inside.region) c.self.invariant.0),
  head-drained c.self.inside.places (g.R.Region.memory c.self.inside.region) (g.R.Region.memory c.drain.new.self) c.self.inside.head c.self.invariant.0 c.drain.ensures c.self.invariant.1,
)

pub returns : goal.returns
returns g c =
    let old = g.R.Region.memory c.self.inside.region in
    subst (λ (r : MemoryByRoles). seen_memory c.self.inside.places (g.R.Region.memory c.drain.new.self) ≡ drained (seen r)) c.self.view_is
    (ap (seen_memory c.self.inside.places) c.drain.ensures ∙ seen-drained c.self.inside.places (g.R.Region.memory c.self.inside.region) c.self.invariant.0)
