use Rattle.std.proofs.Common.{arith}
use Rattle.bp_roles.proofs.RegionLaws.{size-is, load-past}
use Rattle.bp_roles.proofs.region.RegionByRolesRegion.load_past_head.Goals as goal

pub load_past_head-requires-clause-in_range : goal.load_past_head-requires-clause-in_range
load_past_head-requires-clause-in_range g c = omega (arith, c.requires.in_range, size-is (record { roles = c.self.inside.places; memory = g.R.Region.memory c.self.inside.region }) c.args.self.now c.self.view_is)

pub returns : goal.returns
returns g c =
    load-past (record { roles = c.self.inside.places; memory = g.R.Region.memory c.self.inside.region }) c.args.self.now c.self.view_is c.self.invariant.0 c.args.word c.load_past_head.result c.requires.after_head c.load_past_head.ensures
