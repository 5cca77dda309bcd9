use Rattle.std.proofs.Common.{refl, inl, ap, ◌∙◌}
use Rattle.bp_session.proofs.ActingLaws.{acts_synced, capacity-drains, fails_synced, is_synced, size-drains}
use Rattle.bp_session.proofs.AheadLaws.{line_unheard, line_unsaved}
use Rattle.bp_session.proofs.OthersLaws.{others_same, stays_same}
use Rattle.bp_session.proofs.SavingLaws.{still_attached}
use Rattle.bp_session.proofs.LeavesDirtyLaws.{acts_done, holds_synced, leaves_other, leaves_synced}
use Rattle.bp_session.proofs.actions.act_and_save.Goals as goal

pub sync_dirty-requires : goal.sync_dirty-requires
sync_dirty-requires g c = rw (c.in-Synced.ensures.left refl).1 c.requires.ready

pub returns-in-Ok-sync_dirty-clause-does : goal.returns-in-Ok-sync_dirty-clause-does
returns-in-Ok-sync_dirty-clause-does g c = λ saved.
    let it = g.V.FileSystem.behaviour in
    let old = g.V.FileSystem.state c.args.system.now in
    let new = g.V.FileSystem.state c.sync_dirty.new.system in
    let left = c.in-Synced.ensures.left refl in
    let done = c.sync_dirty.ensures.drained ∙ ap it.drained left.1 in
    let memory = ap it.memory done ∙ g.met.V.FileSystem.lawful.drains old in
    acts_synced it old new _ c.act_but_sync.new.buffers.reply.answer left.0 done saved _
    (λ name held. holds_synced (it.memory old) (it.memory new) c.sync_dirty.new.dirty _ name memory ((rw (left.1, c.in-Synced.ensures.notes) at c.in-Ok-sync_dirty.ensures.saved) name saved held))

pub returns-in-Ok-sync_dirty-clause-size : goal.returns-in-Ok-sync_dirty-clause-size
returns-in-Ok-sync_dirty-clause-size g c =
    rw (c.sync_dirty.ensures.drained, (c.in-Synced.ensures.left refl).1) (size-drains g.V.FileSystem.behaviour g.met.V.FileSystem.lawful (g.V.FileSystem.state c.args.system.now))

pub returns-in-Ok-sync_dirty-clause-capacity : goal.returns-in-Ok-sync_dirty-clause-capacity
returns-in-Ok-sync_dirty-clause-capacity g c =
    rw (c.sync_dirty.ensures.drained, (c.in-Synced.ensures.left refl).1) (capacity-drains g.V.FileSystem.behaviour g.met.V.FileSystem.lawful (g.V.FileSystem.state c.args.system.now))

pub returns-in-Err-sync_dirty-clause-size : goal.returns-in-Err-sync_dirty-clause-size
returns-in-Err-sync_dirty-clause-size g c =
    rw (c.sync_dirty.ensures.drained, (c.in-Synced.ensures.left refl).1) (size-drains g.V.FileSystem.behaviour g.met.V.FileSystem.lawful (g.V.FileSystem.state c.args.system.now))

pub returns-in-Err-sync_dirty-clause-capacity : goal.returns-in-Err-sync_dirty-clause-capacity
returns-in-Err-sync_dirty-clause-capacity g c =
    rw (c.sync_dirty.ensures.drained, (c.in-Synced.ensures.left refl).1) (capacity-drains g.V.FileSystem.behaviour g.met.V.FileSystem.lawful (g.V.FileSystem.state c.args.system.now))

pub returns-in-Err-sync_dirty-clause-stops : goal.returns-in-Err-sync_dirty-clause-stops
returns-in-Err-sync_dirty-clause-stops g c =
    let it = g.V.FileSystem.behaviour in
    let lawful = g.met.V.FileSystem.lawful in
    let old = g.V.FileSystem.state c.args.system.now in
    let left = c.in-Synced.ensures.left refl in
    let done = c.sync_dirty.ensures.drained ∙ ap it.drained left.1 in
    line_unsaved it _ _ _ _ _ (rw done (size-drains it lawful old)) (rw done (capacity-drains it lawful old)) c.sync_dirty.ensures.attached c.sync_dirty.ensures.others
    (record {
      fails = λ saved.
          fails_synced it old (g.V.FileSystem.state c.sync_dirty.new.system) _ c.act_but_sync.new.buffers.reply.answer left.0 done saved _ (λ name held. rw left.1 at c.in-Err-sync_dirty.ensures.partly name saved held.file);
      lost = c.in-Err-sync_dirty.ensures.lost;
    }) (rw c.act_but_sync.ensures.waiting at c.in-Ok.ensures.all) c.in-Ok.ensures.cause.same c.in-Err-sync_dirty.ensures.cause.failed

pub returns-in-Err-clause-stops : goal.returns-in-Err-clause-stops
returns-in-Err-clause-stops g c =
    let left = c.in-Synced.ensures.left refl in
    rw (left.1, c.in-Synced.ensures.notes)
    (line_unheard g.V.FileSystem.behaviour _ _ _ _ _ refl refl (still_attached _) (others_same (g.F.Files.view c.args.files.now)) (rw c.act_but_sync.ensures.waiting at c.in-Err.ensures.some) refl c.in-Err.ensures.cause.failed)

pub returns-in-Err-clause-kept : goal.returns-in-Err-clause-kept
returns-in-Err-clause-kept g c = λ _ _ _ name. stays_same ((g.F.Files.view c.args.files.now).contents name)

pub returns-in-Err-clause-others : goal.returns-in-Err-clause-others
returns-in-Err-clause-others g c = others_same (g.F.Files.view c.args.files.now)

pub returns-in-Ok-sync_dirty-clause-dirty : goal.returns-in-Ok-sync_dirty-clause-dirty
returns-in-Ok-sync_dirty-clause-dirty g c =
    leaves_synced _ (g.V.FileSystem.behaviour.memory (g.V.FileSystem.state c.args.system.now)) c.args.dirty.now c.sync_dirty.new.dirty c.in-Ok-sync_dirty.ensures.cleared

pub returns-in-Ok-sync_dirty-clause-kept : goal.returns-in-Ok-sync_dirty-clause-kept
returns-in-Ok-sync_dirty-clause-kept g c = rw ((c.in-Synced.ensures.left refl).1, c.in-Synced.ensures.notes) at c.sync_dirty.ensures.kept

pub returns-in-Err-sync_dirty-clause-kept : goal.returns-in-Err-sync_dirty-clause-kept
returns-in-Err-sync_dirty-clause-kept g c = rw ((c.in-Synced.ensures.left refl).1, c.in-Synced.ensures.notes) at c.sync_dirty.ensures.kept

pub returns-in_default : goal.returns-in_default
returns-in_default g c =
    let it = g.V.FileSystem.behaviour in
    let old = g.V.FileSystem.state c.args.system.now in
    let new = g.V.FileSystem.state c.act_but_sync.new.system in
    let files = g.F.Files.view c.args.files.now in
    let other = c.in_default.not-Synced in
    let does = c.act_but_sync.ensures.does other in
    let leaves = leaves_other c.act_but_sync.result _ (it.memory old) c.args.dirty.now c.act_but_sync.new.dirty c.dirty_crash.new.dirty other c.act_but_sync.ensures.notes c.dirty_crash.ensures.crashed c.dirty_crash.ensures.others in
    record {
      does = λ saved. record {
        after = _;
        line = does.line saved;
        file = λ name held. acts_done it old new _ _ c.args.dirty.now c.dirty_crash.new.dirty files name saved c.requires.ready.size held c.act_but_sync.result does other leaves;
      };
      dirty = leaves;
      kept = λ _ _ _ name. stays_same (files.contents name);
      clears = inl (λ e. other (is_synced it _ _ _ _ does e), c.act_but_sync.ensures.waiting, refl, refl);
      stops = tt;
      heard = tt;
      synced = λ e. absurd (other (is_synced it _ _ _ _ does e));
      flushed = λ e. e;
      sink = refl;
      files = refl;
      size = does.size;
      capacity = does.capacity;
      others = others_same files;
      attached = still_attached _;
      line = c.act_but_sync.ensures.line;
    }
