use Rattle.std.proofs.Common.{◌≡◌, ◌≤◌, ◌-◌, take, drop}
use Rattle.pm_region.specs.Memory.{current_words}
use Rattle.bp_read.specs.Bytes.{content_part}
use Rattle.bp_read.proofs.reads.read.Given as goal

abbrev pub invariant-loop-done : goal.invariant-loop-done
invariant-loop-done g l = record {
  within : l.done ≤ l.count;
  bytes : take l.done l.into ≡ content_part (current_words (g.R.Region.memory l.region)) l.fn.tree.root l.offset l.done;
  rest : drop l.done l.into ≡ drop l.done l.fn.into;
}

abbrev pub decreases-loop-done : goal.decreases-loop-done
decreases-loop-done g l = l.count - l.done
