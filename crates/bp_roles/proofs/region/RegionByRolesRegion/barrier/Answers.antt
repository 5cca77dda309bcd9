use Rattle.std.proofs.Common.{refl, [], ◌∷◌}
use Rattle.pm_epochs.specs.declared.event.Event.TheVariants.{Barrier}
use Rattle.bp_roles.proofs.HeadLaws.{head-kept}
use Rattle.bp_roles.proofs.SeenLaws.{wide-adds}
use Rattle.bp_roles.proofs.region.RegionByRolesRegion.barrier.Goals as goal

pub invariant_of-self : goal.invariant_of-self
invariant_of-self g c = (
  wide-adds (g.R.Region.memory c.self.inside.region) (g.R.Region.memory c.barrier.new.self) _ c.barrier.ensures c.self.invariant.0,
  head-kept c.self.inside.places (g.R.Region.memory c.self.inside.region) (g.R.Region.memory c.barrier.new.self) (Barrier ∷ []) (Barrier ∷ []) c.self.inside.head c.barrier.ensures refl tt c.self.invariant.1,
)
