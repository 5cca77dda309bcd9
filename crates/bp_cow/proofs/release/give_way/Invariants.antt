use Rattle.std.proofs.Common.{◌≡◌, length}
use Rattle.bp_free.specs.Set.{has}
use Rattle.bp_changes.specs.Trail.{block_on}
use Rattle.bp_cow.specs.Job.{prefix}
use Rattle.bp_cow.specs.Plan.{planned}
use Rattle.bp_cow.specs.Return.{IsBack}
use Rattle.bp_cow.specs.Touched.{job_of}
use Rattle.bp_cow.proofs.release.give_way.Given as goal

abbrev pub ghost-give_step : goal.ghost-give_step
ghost-give_step g a = g.plan

abbrev pub invariant-loop-depth : goal.invariant-loop-depth
invariant-loop-depth g l = record {
  back : IsBack (planned g.plan l.touched) l.from l.way.index l.depth g.plan.free_after (has l.blocks);
  block : l.block ≡ block_on g.plan.old (prefix (job_of l.touched) l.way.index l.depth);
  size : length l.blocks ≡ length l.fn.blocks;
}
