use Rattle.std.proofs.Common.{◌∙◌}
use Rattle.bp_volume.proofs.ClearedLaws.{cached_cleared, can_with_room, cleared_end_fits, clears_some}
use Rattle.bp_volume.proofs.RolesLaws.{seen_fits}
use Rattle.bp_volume.proofs.volume.Volume.clear_from.Goals as goal

pub clear_some-requires-clause-version : goal.clear_some-requires-clause-version
clear_some-requires-clause-version g c = (can_with_room c.args.self.now c.self.inside.parts.region c.self.invariant.roles (c.self.view_is ∙ c.make_room.ensures.memory) c.requires.early c.requires.single).early

pub clear_some-requires-clause-single : goal.clear_some-requires-clause-single
clear_some-requires-clause-single g c = (can_with_room c.args.self.now c.self.inside.parts.region c.self.invariant.roles (c.self.view_is ∙ c.make_room.ensures.memory) c.requires.early c.requires.single).single

pub end_call-requires : goal.end_call-requires
end_call-requires g c = cleared_end_fits _ _ _ c.clear_some.ensures (seen_fits c.self.inside.parts.region _ c.self.view_is c.make_room.ensures.room)

pub invariant_of-self : goal.invariant_of-self
invariant_of-self g c =
    cached_cleared c.self.inside.parts c.clear_some.new.region c.end_call.new.self _ _ _ _ c.self.invariant
    (can_with_room c.args.self.now c.self.inside.parts.region c.self.invariant.roles (c.self.view_is ∙ c.make_room.ensures.memory) c.requires.early c.requires.single) c.clear_some.ensures c.end_call.ensures

pub returns : goal.returns
returns g c =
    clears_some c.args.self.now c.self.inside.parts c.clear_some.new.region c.end_call.new.self _ _ _ _ (c.self.view_is ∙ c.make_room.ensures.memory) c.self.invariant
    (can_with_room c.args.self.now c.self.inside.parts.region c.self.invariant.roles (c.self.view_is ∙ c.make_room.ensures.memory) c.requires.early c.requires.single) c.clear_some.ensures c.end_call.ensures
