use Rattle.std.proofs.Common.{arith, sym, ◌∙◌}
use Rattle.bp_roles.proofs.RegionLaws.{size-is}
use Rattle.bp_roles.proofs.region.RegionByRolesRegion.words.Goals as goal

pub returns-clause-count : goal.returns-clause-count
returns-clause-count g c =
    c.words.ensures.count ∙ sym (size-is (record { roles = c.self.inside.places; memory = g.R.Region.memory c.self.inside.region }) c.args.self.now c.self.view_is)

pub returns-clause-few : goal.returns-clause-few
returns-clause-few g c =
    omega (arith, c.words.ensures.few, size-is (record { roles = c.self.inside.places; memory = g.R.Region.memory c.self.inside.region }) c.args.self.now c.self.view_is)
