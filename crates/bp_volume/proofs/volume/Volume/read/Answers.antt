use Rattle.std.proofs.Common.{◌∙◌}
use Rattle.bp_volume.proofs.CachedLaws.{cached_ended}
use Rattle.bp_volume.proofs.RolesLaws.{call_unchanged}
use Rattle.bp_volume.proofs.volume.Volume.read.Goals as goal

pub invariant_of-self : goal.invariant_of-self
invariant_of-self g c =
    cached_ended c.self.inside.parts c.end_call.new.self _ _ c.self.invariant.roles c.self.invariant.volume c.do_read-reported.ensures.right c.end_call.ensures

pub returns-clause-called : goal.returns-clause-called
returns-clause-called g c = call_unchanged c.args.self.now c.self.inside.parts _ _ _ _ (c.self.view_is ∙ c.make_room.ensures.memory) c.self.invariant c.end_call.new.self c.end_call.ensures c.do_read-reported.ensures.reported
