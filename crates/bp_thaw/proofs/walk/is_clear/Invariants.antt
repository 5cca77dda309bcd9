use Rattle.std.proofs.Common.{◌≡◌, [], take}
use Rattle.bp_free.specs.Set.{has}
use Rattle.bp_layout.specs.WordPaths.{address}
use Rattle.pm_region.specs.Memory.{current_words}
use Rattle.bp_thaw.specs.Prefixes.{found_on}
use Rattle.bp_thaw.proofs.walk.is_clear.Given as goal

abbrev pub invariant-loop-depth : goal.invariant-loop-depth
invariant-loop-depth g l = record {
  none : found_on (current_words (g.R.Region.memory l.parts.region)) (has l.parts.snapshot_blocks) [] l.way.items l.depth ≡ [];
  place : l.place ≡ address (current_words (g.R.Region.memory l.parts.region)) (take l.depth l.way.items);
}
