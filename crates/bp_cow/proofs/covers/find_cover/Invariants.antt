use Rattle.std.proofs.Common.{◌-◌}
use Rattle.pm_region.specs.Memory.{current_words}
use Rattle.bp_cow.specs.Found.{IsAt}
use Rattle.bp_cow.proofs.covers.find_cover.Given as goal

abbrev pub invariant-loop-found : goal.invariant-loop-found
invariant-loop-found g l = IsAt (current_words (g.R.Region.memory l.region)) l.touched l.found

abbrev pub decreases-loop-found : goal.decreases-loop-found
decreases-loop-found g l = l.alike - l.found.len
