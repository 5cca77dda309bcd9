use Rattle.std.proofs.Common.{◌∙◌, ap}
use Rattle.pm_region.specs.Memory.{drained}
use Rattle.bp_roles.specs.Seen.{MemoryByRoles}
use Rattle.bp_volume.proofs.ViewLaws.{cached_drained, cached_safe, drained_told}
use Rattle.bp_volume.proofs.volume.Volume.sync.Goals as goal

pub invariant_of-self : goal.invariant_of-self
invariant_of-self g c = cached_drained c.self.inside.parts _ _ _ c.self.invariant c.drain.ensures

pub returns-clause-drained : goal.returns-clause-drained
returns-clause-drained g c =
    ap (λ (it : MemoryByRoles). it.memory) (drained_told c.self.inside.parts.region _ c.self.invariant.roles.wide c.drain.ensures) ∙ ap drained c.self.view_is

pub returns-clause-safe : goal.returns-clause-safe
returns-clause-safe g c = cached_safe _ _ _ (cached_drained c.self.inside.parts _ _ _ c.self.invariant c.drain.ensures)
