use Rattle.std.proofs.Common.{◌∙◌}
use Rattle.bp_volume.proofs.CachedLaws.{cached_super}
use Rattle.bp_volume.proofs.FileCallLaws.{exact_parts}
use Rattle.bp_volume.proofs.RolesLaws.{call_super, seen_fits}
use Rattle.bp_volume.proofs.SuperLaws.{super_call_end_fits}
use Rattle.bp_volume.proofs.ToThreeLaws.{called_to_three, cleared_first, to_three_calls, to_three_exact, to_three_snapshot}
use Rattle.bp_volume.proofs.volume.Volume.upgrade_to_three.Goals as goal

pub end_call-requires : goal.end_call-requires
end_call-requires g c =
    let ready = cleared_first _ _ c.self.inside.parts.region c.clear_all.ensures c.self.invariant.roles (c.self.view_is ∙ c.make_room.ensures.memory) in
    super_call_end_fits _ _ _ _ (to_three_calls _ _ _ c.self.invariant.volume.well_formed ready c.upgrade_region_to_three-made.ensures) (seen_fits c.self.inside.parts.region _ c.self.view_is c.make_room.ensures.room)

pub invariant_of-self : goal.invariant_of-self
invariant_of-self g c =
    let ready = cleared_first _ _ c.self.inside.parts.region c.clear_all.ensures c.self.invariant.roles (c.self.view_is ∙ c.make_room.ensures.memory) in
    cached_super _ _ c.self.inside.parts (record c.self.inside.parts { region = c.upgrade_region_to_three-made.new.region }) c.end_call.new.self _ _ c.self.invariant.roles c.self.invariant.volume c.self.invariant.right
    (to_three_calls _ _ _ c.self.invariant.volume.well_formed ready c.upgrade_region_to_three-made.ensures)
    (exact_parts _ c.self.inside.parts c.upgrade_region_to_three-made.new.region (to_three_exact _ _ _ _ _ c.self.invariant.volume ready c.upgrade_region_to_three-made.ensures))
    (to_three_snapshot _ _ _ _ _ c.self.invariant.volume ready c.upgrade_region_to_three-made.ensures) c.end_call.ensures

pub returns : goal.returns
returns g c =
    let ready = cleared_first _ _ c.self.inside.parts.region c.clear_all.ensures c.self.invariant.roles (c.self.view_is ∙ c.make_room.ensures.memory) in
    called_to_three _ _ _ _ c.clear_all.ensures
    (call_super c.clear_all.new.self c.self.inside.parts _ _ _ _ (c.self.view_is ∙ c.make_room.ensures.memory) c.self.invariant c.upgrade_region_to_three-made.new.region c.end_call.new.self
    (to_three_calls _ _ _ c.self.invariant.volume.well_formed ready c.upgrade_region_to_three-made.ensures) c.end_call.ensures)
