-- The caches for the crashes of a session.
use Rattle.std.specs.Prelude.{◌≡◌, ◌*◌, ℕ}
use Rattle.bp_limits.specs.Limits.{log_events}
use Rattle.pm_cores.specs.Caches.{Caches}

-- The caches of two cores over this number of words, with room for each event of a log and a load after it.
pub record IsTwoCaches (size : ℕ) (caches : Caches) : Type 0 where
  pub cores : caches.cores ≡ 2
  pub words : caches.words ≡ size
  pub capacity : caches.capacity ≡ 2 * log_events
