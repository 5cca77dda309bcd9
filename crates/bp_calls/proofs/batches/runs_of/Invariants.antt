use Rattle.std.proofs.Common.{◌≤◌, take}
use Rattle.arrayvec.specs.ArrayVec.{array_vec_len}
use Rattle.pm_region.specs.Memory.{current_words}
use Rattle.bp_calls.specs.Overwritten.{AreRuns, patches_seen}
use Rattle.bp_calls.proofs.batches.runs_of.Given as goal

abbrev pub invariant-loop-patch : goal.invariant-loop-patch
invariant-loop-patch g l = record {
  are : AreRuns (current_words (g.R.Region.memory l.region)) (patches_seen (take l.patch-index l.patches)) l.runs.items;
  count : array_vec_len l.runs ≤ l.patch-index;
}
