use Rattle.std.proofs.Common.{◌≡◌, ◌+◌, ◌≤◌, List, length, map, take}
use Rattle.bp_free.specs.Set.{has}
use Rattle.bp_layout.specs.WordPaths.{WordPath, address}
use Rattle.pm_region.specs.Memory.{current_words}
use Rattle.bp_thaw.specs.Prefixes.{found_on}
use Rattle.bp_thaw.proofs.find.find_on.Given as goal

abbrev pub invariant-loop-depth : goal.invariant-loop-depth
invariant-loop-depth g l = record {
  found : (found : List WordPath) → l.fn.places.items ≡ map (address (current_words (g.R.Region.memory l.region))) found →
      l.places.items ≡ map (address (current_words (g.R.Region.memory l.region))) (found_on (current_words (g.R.Region.memory l.region)) (has l.snapshot_blocks) found l.way.items l.depth);
  place : l.place ≡ address (current_words (g.R.Region.memory l.region)) (take l.depth l.way.items);
  few : length l.places.items ≤ length l.fn.places.items + l.depth;
}
