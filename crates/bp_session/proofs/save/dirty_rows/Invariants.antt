use Rattle.std.proofs.Common.{◌≡◌, ◌-◌, ◌≤◌, ℕ, true, [], length}
use Rattle.pm_epochs.specs.Log.{stores}
use Rattle.bp_session.specs.Changed.{is_dirty}
use Rattle.bp_session.proofs.DirtyLaws.{CoversStores}
use Rattle.bp_session.proofs.save.dirty_rows.Given as goal

-- the stores of the events so far are dirty
abbrev pub invariant-loop-i : goal.invariant-loop-i
invariant-loop-i g l =
    let events = (g.R.Region.memory l.region).events in
    record {
      here : l.i ≤ l.count;
      flags : CoversStores l.flags events l.i;
      more : (k : ℕ) → is_dirty l.fn.flags k ≡ true → is_dirty l.flags k ≡ true;
      none : stores events ≡ [] → l.flags ≡ l.fn.flags;
      size : length l.flags ≡ length l.fn.flags;
    }

abbrev pub decreases-loop-i : goal.decreases-loop-i
decreases-loop-i g l = l.count - l.i
