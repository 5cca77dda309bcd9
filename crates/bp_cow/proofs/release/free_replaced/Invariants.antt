use Rattle.std.proofs.Common.{◌≡◌, length}
use Rattle.bp_free.specs.Set.{has}
use Rattle.bp_cow.specs.Plan.{planned}
use Rattle.bp_cow.specs.Return.{IsBack}
use Rattle.bp_cow.proofs.release.free_replaced.Given as goal

abbrev pub ghost-give_way : goal.ghost-give_way
ghost-give_way g a = g.plan

abbrev pub invariant-loop-i : goal.invariant-loop-i
invariant-loop-i g l = record {
  back : IsBack (planned g.plan l.touched) l.from l.i l.from g.plan.free_after (has l.blocks);
  size : length l.blocks ≡ length l.fn.blocks;
}
