use Rattle.std.proofs.Common.{◌∙◌}
use Rattle.bp_volume.proofs.CachedLaws.{cached_super}
use Rattle.bp_volume.proofs.RolesLaws.{call_super, seen_fits}
use Rattle.bp_volume.proofs.SnapLaws.{snap_calls}
use Rattle.bp_volume.proofs.SuperLaws.{super_call_end_fits}
use Rattle.bp_volume.proofs.volume.Volume.snap.Goals as goal

pub end_call-requires : goal.end_call-requires
end_call-requires g c =
    super_call_end_fits _ _ _ _ (snap_calls _ _ _ c.self.invariant.volume.well_formed c.do_snap-made.ensures.snaps) (seen_fits c.self.inside.parts.region _ c.self.view_is c.make_room.ensures.room)

pub invariant_of-self : goal.invariant_of-self
invariant_of-self g c =
    cached_super _ _ c.self.inside.parts c.do_snap-made.new.parts c.end_call.new.self _ _ c.self.invariant.roles c.self.invariant.volume c.self.invariant.right
    (snap_calls _ _ _ c.self.invariant.volume.well_formed c.do_snap-made.ensures.snaps) c.do_snap-made.ensures.exact c.do_snap-made.ensures.snapshot_blocks c.end_call.ensures

pub returns : goal.returns
returns g c =
    call_super c.args.self.now c.self.inside.parts _ _ _ _ (c.self.view_is ∙ c.make_room.ensures.memory) c.self.invariant c.do_snap-made.new.parts.region c.end_call.new.self
    (snap_calls _ _ _ c.self.invariant.volume.well_formed c.do_snap-made.ensures.snaps) c.end_call.ensures
