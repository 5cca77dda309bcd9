use Rattle.std.proofs.Common.{◌∙◌, ap, sym}
use Rattle.std.proofs.lemmas.Bool.{ltb-true}
use Rattle.bp_limits.specs.Limits.{call_room}
use Rattle.pm_region.specs.Memory.{with_room}
use Rattle.bp_volume.proofs.ViewLaws.{cached_drained, made_room}
use Rattle.bp_volume.proofs.volume.Volume.make_room.Goals as goal

pub invariant_of-self : goal.invariant_of-self
invariant_of-self g c = cached_drained c.self.inside.parts _ _ _ c.self.invariant c.drain.ensures

pub returns-then-needs_drain-clause-memory : goal.returns-then-needs_drain-clause-memory
returns-then-needs_drain-clause-memory g c =
    made_room c.self.inside.parts.region _ c.self.invariant.roles.wide c.drain.ensures (ltb-true _ _ (sym c.needs_drain.ensures ∙ c.if-needs_drain.true)) ∙ ap (with_room call_room) c.self.view_is
