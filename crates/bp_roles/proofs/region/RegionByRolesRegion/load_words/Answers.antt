use Rattle.std.proofs.Common.{arith}
use Rattle.bp_roles.proofs.RegionLaws.{size-is, run-is}
use Rattle.bp_roles.proofs.region.RegionByRolesRegion.load_words.Goals as goal

pub load_words-requires-clause-in_range : goal.load_words-requires-clause-in_range
load_words-requires-clause-in_range g c = omega (arith, c.requires.in_range, size-is (record { roles = c.self.inside.places; memory = g.R.Region.memory c.self.inside.region }) c.args.self.now c.self.view_is)

pub returns : goal.returns
returns g c = run-is (record { roles = c.self.inside.places; memory = g.R.Region.memory c.self.inside.region }) c.args.self.now c.self.view_is c.self.invariant.0 c.args.first c.args.count c.load_words.result.now c.requires.after_head c.load_words.ensures
