-- The caches of the samples.
use Rattle.std.specs.Prelude.{◌≡◌}
use Rattle.pm_cores.specs.Caches.{Caches}

-- The caches of two cores over two cache lines of words.
pub record AreTwo (caches : Caches) : Type 0 where
  pub cores : caches.cores ≡ 2
  pub words : caches.words ≡ 16
