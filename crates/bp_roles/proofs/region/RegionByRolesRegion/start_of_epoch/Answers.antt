use Rattle.std.proofs.Common.{sym, subst, ◌∙◌, ◌≡◌, ◌≤◌}
use Rattle.bp_roles.specs.Seen.{MemoryByRoles, seen}
use Rattle.pm_epochs.specs.Log.{barriers}
use Rattle.pm_region.specs.Epochs.{epoch_start}
use Rattle.bp_roles.proofs.SeenLaws.{seen-barriers, seen-epoch_start}
use Rattle.bp_roles.proofs.region.RegionByRolesRegion.start_of_epoch.Goals as goal

pub start_of_epoch-requires : goal.start_of_epoch-requires
start_of_epoch-requires g c =
    subst (λ n. c.args.epoch ≤ n) (seen-barriers c.self.inside.places (g.R.Region.memory c.self.inside.region).events)
    (subst (λ (r : MemoryByRoles). c.args.epoch ≤ barriers (seen r).events) (sym c.self.view_is) c.requires)

pub returns : goal.returns
returns g c =
    subst (λ (r : MemoryByRoles). c.start_of_epoch.result ≡ epoch_start c.args.epoch (seen r).events) c.self.view_is
    (c.start_of_epoch.ensures ∙ sym (seen-epoch_start c.self.inside.places c.args.epoch (g.R.Region.memory c.self.inside.region).events))
