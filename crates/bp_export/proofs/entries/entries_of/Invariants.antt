use Rattle.std.proofs.Common.{◌≡◌, ◌*◌, min}
use Rattle.bp_layout.specs.Directory.{entry_count}
use Rattle.pm_region.specs.Memory.{current_words}
use Rattle.bp_export.specs.Entries.{entries_named}
use Rattle.bp_export.proofs.entries.entries_of.Given as goal

abbrev pub invariant-loop-leaf : goal.invariant-loop-leaf
invariant-loop-leaf g l =
    l.entries ≡ entries_named (current_words (g.R.Region.memory l.region)) l.ino 0 (min (16 * l.leaf) (entry_count (current_words (g.R.Region.memory l.region)) l.ino))
