use Rattle.std.proofs.Common.{◌≡◌, ◌*◌, min}
use Rattle.bp_layout.specs.Directory.{entry_count}
use Rattle.pm_region.specs.Memory.{current_words}
use Rattle.bp_calls.specs.Asked.{entries_seen}
use Rattle.bp_calls.proofs.listing.entries.Given as goal

abbrev pub invariant-loop-leaf : goal.invariant-loop-leaf
invariant-loop-leaf g l =
    l.listing ≡ entries_seen (current_words (g.R.Region.memory l.region)) l.ino (min (16 * l.leaf) (entry_count (current_words (g.R.Region.memory l.region)) l.ino))
