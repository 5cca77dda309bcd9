use Rattle.pm_region.specs.Memory.{current_words}
use Rattle.bp_free.specs.Set.{has}
use Rattle.bp_changes.specs.Sets.{in_snapshot_of}
use Rattle.bp_cow.specs.Touched.{job_of}
use Rattle.bp_cow.proofs.commit.commit_at.Given as goal

abbrev pub ghost-commit_copies : goal.ghost-commit_copies
ghost-commit_copies g a = record {
  old = current_words (g.R.Region.memory a.parts.now.region);
  bound = g.bound;
  in_snapshot = in_snapshot_of a.parts.now;
  free = has a.parts.now.free_blocks;
  job = job_of a.touched.now;
  place = a.place;
  top = 0;
  free_after = has a.parts.now.free_blocks;
}
