use Rattle.std.proofs.Common.{◌∙◌}
use Rattle.bp_volume.proofs.CachedLaws.{cached_super}
use Rattle.bp_volume.proofs.FileCallLaws.{exact_parts}
use Rattle.bp_volume.proofs.RolesLaws.{call_super, seen_fits}
use Rattle.bp_volume.proofs.SuperLaws.{super_call_end_fits}
use Rattle.bp_volume.proofs.UpgradeLaws.{upgrade_calls, upgrade_exact, upgrade_snapshot}
use Rattle.bp_volume.proofs.volume.Volume.upgrade.Goals as goal

pub end_call-requires : goal.end_call-requires
end_call-requires g c = super_call_end_fits _ _ _ _ (upgrade_calls _ _ c.self.invariant.volume.well_formed c.upgrade_region.ensures) (seen_fits c.self.inside.parts.region _ c.self.view_is c.make_room.ensures.room)

pub invariant_of-self : goal.invariant_of-self
invariant_of-self g c =
    cached_super _ _ c.self.inside.parts (record c.self.inside.parts { region = c.upgrade_region.new.region }) c.end_call.new.self _ _ c.self.invariant.roles c.self.invariant.volume c.self.invariant.right
    (upgrade_calls _ _ c.self.invariant.volume.well_formed c.upgrade_region.ensures)
    (exact_parts _ c.self.inside.parts c.upgrade_region.new.region (upgrade_exact _ _ _ _ c.self.invariant.volume c.upgrade_region.ensures)) (upgrade_snapshot _ _ _ _ c.self.invariant.volume c.upgrade_region.ensures) c.end_call.ensures

pub returns : goal.returns
returns g c =
    call_super c.args.self.now c.self.inside.parts _ _ _ _ (c.self.view_is ∙ c.make_room.ensures.memory) c.self.invariant c.upgrade_region.new.region c.end_call.new.self
    (upgrade_calls _ _ c.self.invariant.volume.well_formed c.upgrade_region.ensures) c.end_call.ensures
