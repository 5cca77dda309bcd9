-- What `snap` and `unsnap` do to a region before their end-of-call markers.
use Rattle.std.specs.Prelude.{◌≡◌, true, false}
use Rattle.pm_region.specs.Memory.{Adds, Memory, current_words}
use Rattle.bp_layout.specs.Formatted.{version_of}
use Rattle.bp_layout.specs.Trees.{has_snapshot}
use Rattle.bp_limits.specs.CallLimits.{allows_snapshot}
use Rattle.bp_plain.specs.Calls.{Answer}
use Rattle.bp_plain.specs.Calls.Answer.{done}
use Rattle.bp_plain.specs.Calls.Call.{snap, unsnap}
use Rattle.bp_fs.specs.SuperEvents.{snap_events, unsnap_events}
use Rattle.bp_volume.specs.Queries.{Answers}

-- If the version allows a snapshot and the image has none, the call adds `snap_events` and the answer is `done`; else it
-- changes nothing, and the answer is the refusal.
pub data Snaps (old : Memory) (answer : Answer) (new : Memory) : Type 0 where
  made : answer ≡ done → allows_snapshot (version_of (current_words old)) ≡ true → has_snapshot (current_words old) ≡ false
      → Adds old new (snap_events (current_words old)) → Snaps old answer new
  refused : new ≡ old → Answers (current_words old) snap answer → Snaps old answer new

-- If there is a snapshot, the call adds `unsnap_events` and the answer is `done`; else it changes nothing, and the
-- answer is the refusal.
pub data Unsnaps (old : Memory) (answer : Answer) (new : Memory) : Type 0 where
  gone : answer ≡ done → has_snapshot (current_words old) ≡ true → Adds old new unsnap_events → Unsnaps old answer new
  refused : new ≡ old → Answers (current_words old) unsnap answer → Unsnaps old answer new
