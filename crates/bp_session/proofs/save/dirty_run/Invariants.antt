use Rattle.std.proofs.Common.{◌≡◌, ◌≤◌, ◌<◌, ◌+◌, ◌-◌, ℕ, true}
use Rattle.bp_session.specs.Changed.{is_dirty}
use Rattle.bp_session.proofs.save.dirty_run.Given as goal

abbrev pub invariant-loop-run : goal.invariant-loop-run
invariant-loop-run l = record {
  few : l.run ≤ l.most;
  dirtied : (k : ℕ) → k < l.run → is_dirty l.flags (l.first + k) ≡ true;
}

abbrev pub decreases-loop-run : goal.decreases-loop-run
decreases-loop-run l = l.most - l.run
