use Rattle.std.proofs.Common.{rules, ◌≡◌, ◌*◌, min}
use Rattle.bp_disk.proofs.CopyLaws.{changes_then, copied_at}
use Rattle.bp_disk.proofs.CompleteLaws.{completed_run, completed_all}
use Rattle.bp_disk.proofs.temp_file.TempFile.complete.Goals as goal

pub returns-in_err-copy_bytes-clause-changes : goal.returns-in_err-copy_bytes-clause-changes
returns-in_err-copy_bytes-clause-changes g c = changes_then _ _ _ _ c.loop-run.invariant.changes c.copy_bytes.ensures.changes

pub loop-run-preserved : goal.loop-run-preserved
loop-run-preserved g c = record {
  high = search rules;
  changes = changes_then _ _ _ _ c.loop-run.invariant.changes c.copy_bytes.ensures.changes;
  completed =
      let low : c.start.result ≡ 4096 * c.in-Some.run'.first = search rules in
      let high : c.min-end.result ≡ min (4096 * c.in-Some.run'.next) c.args.self.now.kept = search rules in
      completed_run _ _ c.loop-run.held.blocks.items _ _ _ c.loop-run.at c.in-Some.run' _ (g.S.System.calls c.loop-run.system) _
      c.loop-run.invariant.states c.in-Some.ensures c.loop-run.invariant.changes c.copy_bytes.ensures.changes
      c.loop-run.invariant.completed
      (copied_at _ _ _ _ _ _ _ _ _ low high c.in_ok-copy_bytes.ensures.copied);
  named = search rules;
  states = search rules;
}

pub returns-clause-completed : goal.returns-clause-completed
returns-clause-completed g c =
    completed_all _ _ c.loop-run.held.blocks.items _ _ _ c.loop-run.at _ _ c.loop-run.invariant.high c.loop-run.invariant.states
    c.in_default.ensures c.loop-run.invariant.completed
