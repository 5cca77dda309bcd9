use Rattle.pm_region.specs.Memory.{current_words}
use Rattle.bp_scan.specs.Reading.{IsReading, steps}
use Rattle.bp_scan.proofs.tree_walk.read_directories.Given as goal

-- between directories
abbrev pub invariant-loop-inode : goal.invariant-loop-inode
invariant-loop-inode g l = record {
  reading : IsReading (current_words (g.R.Region.memory l.region)) l.work 0 0;
}

abbrev pub decreases-loop-inode : goal.decreases-loop-inode
decreases-loop-inode g l = steps l.work
