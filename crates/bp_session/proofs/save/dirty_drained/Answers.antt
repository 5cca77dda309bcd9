use Rattle.std.proofs.Common.{sym, ◌∙◌}
use Rattle.std.proofs.lemmas.Bool.{ltb-false, ltb-true}
use Rattle.bp_limits.specs.Limits.{call_room}
use Rattle.pm_region.specs.Memory.{room_in}
use Rattle.bp_session.proofs.DirtyLaws.{drain_dirty, drain_none}
use Rattle.bp_session.proofs.save.dirty_drained.Goals as goal

pub returns-then-needs_drain : goal.returns-then-needs_drain
returns-then-needs_drain g c =
    let memory = g.R.Region.memory c.args.region.now in
    let low = ltb-true (room_in memory) call_room (sym c.needs_drain.ensures ∙ c.if-needs_drain.true) in
    drain_dirty memory c.args.flags.now c.dirty_stored.new.flags low c.dirty_stored.ensures.size c.dirty_stored.ensures.more c.dirty_stored.ensures.flags c.dirty_stored.ensures.none

pub returns-else-needs_drain : goal.returns-else-needs_drain
returns-else-needs_drain g c =
    let memory = g.R.Region.memory c.args.region.now in
    drain_none memory c.args.flags.now (ltb-false (room_in memory) call_room (sym c.needs_drain.ensures ∙ c.if-needs_drain.false))
