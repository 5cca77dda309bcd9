use Rattle.std.proofs.Common.{arith, ap, inl, refl, sym, ◌∙◌, length}
use Rattle.bp_script.specs.Commands.{in_grammar}
use Rattle.bp_script.specs.Commands.Command.{log, space, sync}
use Rattle.bp_session.proofs.ActingLaws.{command_long, command_short, does_call, does_crash, does_log, does_long, does_space, does_storm, does_cache, mask_fits, crash_not_left, no_sync_log, no_sync_storm, no_sync_cache, not_left}
use Rattle.bp_session.specs.Work.{answer_in}
use Rattle.bp_session.proofs.LeavesDirtyLaws.{notes_cache, notes_crash, notes_log}
use Rattle.bp_session.proofs.actions.act_but_sync.Goals as goal

pub apply-requires : goal.apply-requires
apply-requires g c = record { can = rw c.in-Ok-Call.field-0-is at c.in-Ok-Call.ensures.can }

pub returns-then-len-gt-MAX_LINE-clause-does : goal.returns-then-len-gt-MAX_LINE-clause-does
returns-then-len-gt-MAX_LINE-clause-does g c = λ _. rw (command_long c.args.buffers.now.line.items (omega arith)) (does_long g.V.FileSystem.behaviour (g.V.FileSystem.state c.args.system.now) _)

pub returns-in-Ok-Call-clause-does : goal.returns-in-Ok-Call-clause-does
returns-in-Ok-Call-clause-does g c = λ _.
    let asked = command_short c.args.buffers.now.line.items _ (omega arith) (let meant = rw c.in-Ok-Call.field-0-is at c.in-Ok-Call.ensures.meaning in meant ∙ ap in_grammar c.deref.ensures.value) in
    rw (← asked) (does_call g.V.FileSystem.behaviour g.met.V.FileSystem.lawful (g.V.FileSystem.state c.args.system.now) _ _ _ c.apply.ensures.calls)

pub returns-in-Ok-Sync-clause-left : goal.returns-in-Ok-Sync-clause-left
returns-in-Ok-Sync-clause-left g c = λ _.
    let asked = command_short c.args.buffers.now.line.items sync (omega arith) (let meant = rw c.in-Ok-Sync.field-0-is at c.in-Ok-Sync.ensures.meaning in meant ∙ ap in_grammar c.deref.ensures.value) in
    (sym asked, refl)

pub returns-in-Ok-Space-clause-does : goal.returns-in-Ok-Space-clause-does
returns-in-Ok-Space-clause-does g c = λ _.
    let asked = command_short c.args.buffers.now.line.items space (omega arith) (let meant = rw c.in-Ok-Space.field-0-is at c.in-Ok-Space.ensures.meaning in meant ∙ ap in_grammar c.deref.ensures.value) in
    rw (← asked) (does_space g.V.FileSystem.behaviour (g.V.FileSystem.state c.args.system.now) _ _ _ c.space-space.ensures.space)

pub returns-in-Ok-Crash-clause-does : goal.returns-in-Ok-Crash-clause-does
returns-in-Ok-Crash-clause-does g c = λ _.
    let asked = command_short c.args.buffers.now.line.items _ (omega arith) (let meant = rw c.in-Ok-Crash.field-0-is at c.in-Ok-Crash.ensures.meaning in meant ∙ ap in_grammar c.deref.ensures.value) in
    rw (← asked) (does_crash g.V.FileSystem.behaviour g.met.V.FileSystem.lawful (g.V.FileSystem.state c.args.system.now) _ _ _ _ c.crash.ensures.crashes)

pub returns-in-Ok-Storm-clause-does : goal.returns-in-Ok-Storm-clause-does
returns-in-Ok-Storm-clause-does g c = λ _.
    let asked = command_short c.args.buffers.now.line.items _ (omega arith) (let meant = rw c.in-Ok-Storm.field-0-is at c.in-Ok-Storm.ensures.meaning in meant ∙ ap in_grammar c.deref.ensures.value) in
    rw (← asked) (does_storm g.V.FileSystem.behaviour g.met.V.FileSystem.lawful (g.V.FileSystem.state c.args.system.now) _ _ _ _ c.crash_by_storm.ensures.crashes)

pub returns-in-Ok-Cache-clause-does : goal.returns-in-Ok-Cache-clause-does
returns-in-Ok-Cache-clause-does g c = λ _.
    let asked = command_short c.args.buffers.now.line.items _ (omega arith) (let meant = rw c.in-Ok-Cache.field-0-is at c.in-Ok-Cache.ensures.meaning in meant ∙ ap in_grammar c.deref.ensures.value) in
    rw (← asked) (does_cache g.V.FileSystem.behaviour g.met.V.FileSystem.lawful (g.V.FileSystem.state c.args.system.now) _ _ _ _ c.crash_by_caches.ensures.crashes)

pub returns-in-Ok-Log-clause-does : goal.returns-in-Ok-Log-clause-does
returns-in-Ok-Log-clause-does g c = λ _.
    let asked = command_short c.args.buffers.now.line.items log (omega arith) (let meant = rw c.in-Ok-Log.field-0-is at c.in-Ok-Log.ensures.meaning in meant ∙ ap in_grammar c.deref.ensures.value) in
    rw (← asked) (does_log g.V.FileSystem.behaviour (g.V.FileSystem.state c.args.system.now) _ _ (rw c.region-in-Ok-Log.ensures at c.count_log.ensures))

pub returns-in-Ok-Crash-clause-left : goal.returns-in-Ok-Crash-clause-left
returns-in-Ok-Crash-clause-left g c = crash_not_left g.V.FileSystem.behaviour (g.V.FileSystem.state c.args.system.now) _ _ _ c.crash.ensures.crashes

pub returns-in-Ok-Storm-clause-left : goal.returns-in-Ok-Storm-clause-left
returns-in-Ok-Storm-clause-left g c = not_left g.V.FileSystem.behaviour _ _ _ _ (does_storm g.V.FileSystem.behaviour g.met.V.FileSystem.lawful (g.V.FileSystem.state c.args.system.now) _ _ _ (answer_in c.args.buffers.now) c.crash_by_storm.ensures.crashes) (no_sync_storm _)

pub returns-in-Ok-Cache-clause-left : goal.returns-in-Ok-Cache-clause-left
returns-in-Ok-Cache-clause-left g c = not_left g.V.FileSystem.behaviour _ _ _ _ (does_cache g.V.FileSystem.behaviour g.met.V.FileSystem.lawful (g.V.FileSystem.state c.args.system.now) _ _ _ (answer_in c.args.buffers.now) c.crash_by_caches.ensures.crashes) (no_sync_cache _)

pub returns-in-Ok-Log-clause-left : goal.returns-in-Ok-Log-clause-left
returns-in-Ok-Log-clause-left g c = not_left g.V.FileSystem.behaviour _ _ _ _ (does_log g.V.FileSystem.behaviour (g.V.FileSystem.state c.args.system.now) _ (answer_in c.args.buffers.now) (rw c.region-in-Ok-Log.ensures at c.count_log.ensures)) no_sync_log

pub crash-requires-clause-mask : goal.crash-requires-clause-mask
crash-requires-clause-mask g c =
    mask_fits _ (length c.args.buffers.now.line.items) (omega arith) (rw c.deref.ensures.value at (rw c.in-Ok-Crash.field-0-is at c.in-Ok-Crash.ensures.mask))

-- ---- what is noted

pub returns-in-Ok-Call-clause-notes : goal.returns-in-Ok-Call-clause-notes
returns-in-Ok-Call-clause-notes g c =
    let asked = command_short c.args.buffers.now.line.items _ (omega arith) (let meant = rw c.in-Ok-Call.field-0-is at c.in-Ok-Call.ensures.meaning in meant ∙ ap in_grammar c.deref.ensures.value) in
    rw (← asked) (rw c.region.ensures at c.dirty_call.ensures)

pub returns-in-Ok-Crash-clause-notes : goal.returns-in-Ok-Crash-clause-notes
returns-in-Ok-Crash-clause-notes g c = notes_crash g.V.FileSystem.behaviour (g.V.FileSystem.state c.args.system.now) _ _ _ _ _ c.crash.ensures.crashes

pub returns-in-Ok-Storm-clause-notes : goal.returns-in-Ok-Storm-clause-notes
returns-in-Ok-Storm-clause-notes g c = notes_crash g.V.FileSystem.behaviour (g.V.FileSystem.state c.args.system.now) _ _ _ _ _ (inl c.crash_by_storm.ensures.crashes)

pub returns-in-Ok-Cache-clause-notes : goal.returns-in-Ok-Cache-clause-notes
returns-in-Ok-Cache-clause-notes g c = notes_cache g.V.FileSystem.behaviour (g.V.FileSystem.state c.args.system.now) _ _ _ _ _ c.crash_by_caches.ensures.crashes

pub returns-in-Ok-Log-clause-notes : goal.returns-in-Ok-Log-clause-notes
returns-in-Ok-Log-clause-notes g c = notes_log (g.V.FileSystem.behaviour.memory (g.V.FileSystem.state c.args.system.now)) _ _ _ _ _ _ c.count_log.ensures
