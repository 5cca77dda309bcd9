use Rattle.std.proofs.Common.{◌∙◌}
use Rattle.bp_roles.proofs.RegionLaws.{stored_at-in, past-is}
use Rattle.bp_roles.proofs.region.RegionByRolesRegion.word_at.Goals as goal

pub word_at-requires-clause-in_range : goal.word_at-requires-clause-in_range
word_at-requires-clause-in_range g c = stored_at-in (record { roles = c.self.inside.places; memory = g.R.Region.memory c.self.inside.region }) c.args.self.now c.self.view_is c.self.invariant.0 c.args.word c.stored_at.result c.stored_at.ensures c.requires.in_range

pub returns : goal.returns
returns g c = c.swapped.ensures ∙ past-is (record { roles = c.self.inside.places; memory = g.R.Region.memory c.self.inside.region }) c.args.self.now c.self.view_is c.self.invariant.0 c.args.moment c.args.word c.stored_at.result c.word_at.result c.stored_at.ensures c.word_at.ensures
