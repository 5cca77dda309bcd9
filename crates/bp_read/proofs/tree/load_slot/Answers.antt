use Rattle.std.proofs.Common.{arith}
use Rattle.bp_read.proofs.RegionWords.{length_now}
use Rattle.bp_read.proofs.tree.load_slot.Goals as goal

pub overflow_mul-block : goal.overflow_mul-block
overflow_mul-block g c = omega (arith, length_now (g.R.Region.memory c.args.region.now))

pub overflow_add-block : goal.overflow_add-block
overflow_add-block g c = omega (arith, length_now (g.R.Region.memory c.args.region.now))

pub load_past_head-requires-clause-in_range : goal.load_past_head-requires-clause-in_range
load_past_head-requires-clause-in_range g c = omega (arith, length_now (g.R.Region.memory c.args.region.now))
