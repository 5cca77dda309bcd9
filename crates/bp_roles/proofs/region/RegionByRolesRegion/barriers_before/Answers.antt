use Rattle.std.proofs.Common.{ap, sym, subst, ◌∙◌, ◌≡◌, take}
use Rattle.bp_roles.specs.Seen.{MemoryByRoles, seen, seen_event}
use Rattle.std.proofs.lemmas.List.{take-map}
use Rattle.pm_epochs.specs.Log.{barriers}
use Rattle.bp_roles.proofs.SeenLaws.{seen-barriers}
use Rattle.bp_roles.proofs.region.RegionByRolesRegion.barriers_before.Goals as goal

pub returns : goal.returns
returns g c =
    subst (λ (r : MemoryByRoles). c.barriers_before.result ≡ barriers (take c.args.moment (seen r).events)) c.self.view_is
    (c.barriers_before.ensures
    ∙ sym (seen-barriers c.self.inside.places (take c.args.moment (g.R.Region.memory c.self.inside.region).events))
    ∙ ap barriers (sym (take-map (seen_event c.self.inside.places) c.args.moment (g.R.Region.memory c.self.inside.region).events)))
