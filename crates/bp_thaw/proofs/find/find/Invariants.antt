use Rattle.std.proofs.Common.{◌≡◌, ◌*◌, ◌≤◌, [], length, map, take}
use Rattle.bp_free.specs.Set.{has}
use Rattle.bp_layout.specs.WordPaths.{address}
use Rattle.pm_region.specs.Memory.{current_words}
use Rattle.bp_thaw.specs.Prefixes.{found_in}
use Rattle.bp_thaw.proofs.find.find.Given as goal

abbrev pub invariant-loop-i : goal.invariant-loop-i
invariant-loop-i g l = record {
  found : l.places.items ≡ map (address (current_words (g.R.Region.memory l.region))) (found_in (current_words (g.R.Region.memory l.region)) (has l.snapshot_blocks) [] (map (λ path. path.items) (take l.i l.ways.items)));
  few : length l.places.items ≤ 12 * l.i;
}
