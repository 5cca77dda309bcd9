use Rattle.std.proofs.Common.{sym, ◌∙◌, ◌≡◌, false}
use Rattle.pm_epochs.specs.Kind.{value_at}
use Rattle.bp_roles.specs.Seen.{is_of_head}
use Rattle.bp_roles.proofs.RegionLaws.{kind-is, row-is}
use Rattle.bp_roles.proofs.region.RegionByRolesRegion.row.Goals as goal

pub returns-then-is_of_head-clause-get : goal.returns-then-is_of_head-clause-get
returns-then-is_of_head-clause-get g c =
    kind-is (record { roles = c.self.inside.places; memory = g.R.Region.memory c.self.inside.region }) c.args.self.now c.self.view_is c.args.first c.row-kind.result.kind c.seen_kind.result c.seen_kind.ensures c.row-kind.ensures.get

pub returns-else-is_of_head-clause-get : goal.returns-else-is_of_head-clause-get
returns-else-is_of_head-clause-get g c =
    kind-is (record { roles = c.self.inside.places; memory = g.R.Region.memory c.self.inside.region }) c.args.self.now c.self.view_is c.args.first c.row-kind.result.kind c.seen_kind.result c.seen_kind.ensures c.row-kind.ensures.get

pub returns-else-is_of_head-clause-row : goal.returns-else-is_of_head-clause-row
returns-else-is_of_head-clause-row g c =
    let loose : is_of_head c.row-kind.result.kind ≡ false = sym c.is_of_head.ensures ∙ c.if-is_of_head.false in
    row-is (record { roles = c.self.inside.places; memory = g.R.Region.memory c.self.inside.region }) c.args.self.now c.self.view_is c.args.first c.row-kind.result.len c.row-kind.result.kind
    (value_at (g.R.Region.memory c.self.inside.region).events c.args.first) loose c.row-kind.ensures.get c.row-kind.ensures.inside c.row-kind.ensures.row
