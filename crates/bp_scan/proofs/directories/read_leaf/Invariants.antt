use Rattle.std.proofs.Common.{◌+◌, ◌≤◌}
use Rattle.pm_region.specs.Memory.{current_words}
use Rattle.bp_scan.specs.Reading.{IsInside, steps}
use Rattle.bp_scan.proofs.directories.read_leaf.Given as goal

-- the entries before the current one were read
abbrev pub invariant-loop-k : goal.invariant-loop-k
invariant-loop-k g l = record {
  inside : IsInside (current_words (g.R.Region.memory l.region)) l.work l.directory (l.first + l.k);
  less : steps l.work ≤ steps l.initial.work;
}
