use Rattle.std.proofs.Common.{refl, [], ◌∷◌}
use Rattle.pm_epochs.specs.declared.event.Event.TheVariants.{CallEnd}
use Rattle.bp_roles.proofs.HeadLaws.{head-kept}
use Rattle.bp_roles.proofs.SeenLaws.{wide-adds}
use Rattle.bp_roles.proofs.region.RegionByRolesRegion.end_call.Goals as goal

pub invariant_of-self : goal.invariant_of-self
invariant_of-self g c = (
  wide-adds (g.R.Region.memory c.self.inside.region) (g.R.Region.memory c.end_call.new.self) _ c.end_call.ensures c.self.invariant.0,
  head-kept c.self.inside.places (g.R.Region.memory c.self.inside.region) (g.R.Region.memory c.end_call.new.self) (CallEnd ∷ []) (CallEnd ∷ []) c.self.inside.head c.end_call.ensures refl tt c.self.invariant.1,
)
