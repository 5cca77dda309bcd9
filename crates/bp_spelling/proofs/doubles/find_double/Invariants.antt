use Rattle.std.proofs.Common.{◌≡◌, ℕ, suc, ◌<◌, slice_index_or}
use Rattle.pm_region.specs.Memory.{current_words}
use Rattle.bp_spelling.specs.Hashes.{spelled_key}
use Rattle.bp_spelling.proofs.HashOrder.{blank}
use Rattle.bp_spelling.proofs.doubles.find_double.Given as goal

abbrev pub invariant-loop-i : goal.invariant-loop-i
invariant-loop-i g l =
    (k : ℕ) → suc k < l.i → spelled_key (current_words (g.R.Region.memory l.region)) (slice_index_or l.entries k blank) ≡ spelled_key (current_words (g.R.Region.memory l.region)) (slice_index_or l.entries (suc k) blank) → ⊥
