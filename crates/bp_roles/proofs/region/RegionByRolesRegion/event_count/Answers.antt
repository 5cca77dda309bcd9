use Rattle.bp_roles.proofs.RegionLaws.{within-is}
use Rattle.bp_roles.proofs.region.RegionByRolesRegion.event_count.Goals as goal

pub returns-clause-within : goal.returns-clause-within
returns-clause-within g c = within-is (record { roles = c.self.inside.places; memory = g.R.Region.memory c.self.inside.region }) c.args.self.now c.self.view_is c.self.invariant.0 c.event_count.ensures.within
