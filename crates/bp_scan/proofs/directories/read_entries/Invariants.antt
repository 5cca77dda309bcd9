use Rattle.std.proofs.Common.{◌*◌, ◌/◌, ◌≤◌, min}
use Rattle.pm_region.specs.Memory.{current_words}
use Rattle.bp_scan.specs.Reading.{IsInside, steps}
use Rattle.bp_scan.proofs.directories.read_entries.Given as goal

-- the entries of the leaves before the current one were read
abbrev pub invariant-loop-leaf : goal.invariant-loop-leaf
invariant-loop-leaf g l = record {
  inside : IsInside (current_words (g.R.Region.memory l.region)) l.work l.directory (min (16 * l.leaf) (l.directory.tree.size / 256));
  less : steps l.work ≤ steps l.initial.work;
}
