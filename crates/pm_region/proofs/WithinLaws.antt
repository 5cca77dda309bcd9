-- Logs whose stores go to some words.
use Rattle.std.proofs.Common.{◌≡◌, ℕ, ◌+◌, ◌<◌, ◌≤◌, List, [], ◌∷◌, ◌++◌, length, subst, sym, arith}
use Rattle.pm_epochs.specs.declared.event.Event.{Event}
use Rattle.pm_epochs.proofs.MayLaws.{StoresMay-append}
use Rattle.pm_region.specs.Memory.{AreWithin, stores_from}
use Rattle.pm_region.proofs.RunLaws.{StoresMay-run}

pub within-none : (count : ℕ) (events : List Event) → events ≡ [] → AreWithin count events
within-none count events none = subst (AreWithin count) (sym none) tt

-- one log after another
pub within-append : (count : ℕ) (events more : List Event) → AreWithin count events → AreWithin count more → AreWithin count (events ++ more)
within-append count = StoresMay-append (λ word value. word < count)

-- a run of stores
pub within-run : (count first : ℕ) (values : List ℕ) → first + length values ≤ count → AreWithin count (stores_from first values)
within-run count first values fits = StoresMay-run (λ word value. word < count) first values (λ i low. omega arith)

-- the same words and log, reported otherwise
pub within-same : (count other : ℕ) (events others : List Event) → count ≡ other → events ≡ others → AreWithin count events → AreWithin other others
within-same count other events others counts same within = subst (λ es. AreWithin other es) same (subst (λ n. AreWithin n events) counts within)
