use Rattle.bp_roles.specs.Seen.{seen}
use Rattle.bp_roles.proofs.RegionLaws.{kind-is}
use Rattle.pm_region.proofs.KindLaws.{kind_value}
use Rattle.bp_roles.proofs.region.RegionByRolesRegion.kind.Goals as goal

pub returns-clause-get : goal.returns-clause-get
returns-clause-get g c = kind-is (record { roles = c.self.inside.places; memory = g.R.Region.memory c.self.inside.region }) c.args.self.now c.self.view_is c.args.i c.kind.result c.seen_kind.result c.seen_kind.ensures c.kind.ensures.get

pub returns-clause-value : goal.returns-clause-value
returns-clause-value g c =
    kind_value (seen c.args.self.now).events c.args.i c.seen_kind.result
    (kind-is (record { roles = c.self.inside.places; memory = g.R.Region.memory c.self.inside.region }) c.args.self.now c.self.view_is c.args.i c.kind.result c.seen_kind.result c.seen_kind.ensures c.kind.ensures.get)
