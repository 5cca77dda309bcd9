use Rattle.std.proofs.Common.{◌∙◌}
use Rattle.bp_volume.proofs.CachedLaws.{cached_carried}
use Rattle.bp_volume.proofs.CarriedLaws.{call_end_fits}
use Rattle.bp_volume.proofs.RolesLaws.{call_carried, seen_fits}
use Rattle.bp_volume.proofs.volume.Volume.write.Goals as goal

pub end_call-requires : goal.end_call-requires
end_call-requires g c = call_end_fits c.do_write-made.ensures.called (seen_fits c.self.inside.parts.region _ c.self.view_is c.make_room.ensures.room)

pub invariant_of-self : goal.invariant_of-self
invariant_of-self g c =
    cached_carried c.self.inside.parts c.do_write-made.new.parts c.end_call.new.self _ _ c.self.invariant.roles c.self.invariant.volume c.do_write-made.ensures.called c.do_write-made.ensures.exact
    c.do_write-made.ensures.snapshot_blocks c.do_write-made.ensures.right c.end_call.ensures

pub returns : goal.returns
returns g c =
    call_carried c.args.self.now c.self.inside.parts _ _ _ _ (c.self.view_is ∙ c.make_room.ensures.memory) c.self.invariant c.do_write-made.new.parts.region c.end_call.new.self c.do_write-made.ensures.called c.end_call.ensures
