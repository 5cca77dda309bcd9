use Rattle.std.proofs.Common.{◌∙◌}
use Rattle.bp_roles.proofs.RegionLaws.{stored_at-in, base-is}
use Rattle.bp_roles.proofs.region.RegionByRolesRegion.base_word.Goals as goal

pub base_word-requires : goal.base_word-requires
base_word-requires g c = stored_at-in (record { roles = c.self.inside.places; memory = g.R.Region.memory c.self.inside.region }) c.args.self.now c.self.view_is c.self.invariant.0 c.args.word c.stored_at.result c.stored_at.ensures c.requires

pub returns : goal.returns
returns g c = c.swapped.ensures ∙ base-is (record { roles = c.self.inside.places; memory = g.R.Region.memory c.self.inside.region }) c.args.self.now c.self.view_is c.self.invariant.0 c.args.word c.stored_at.result c.base_word.result c.stored_at.ensures c.base_word.ensures
