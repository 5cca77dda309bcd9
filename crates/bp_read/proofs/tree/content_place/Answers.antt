use Rattle.std.proofs.Common.{arith}
use Rattle.bp_read.proofs.RegionWords.{length_now}
use Rattle.bp_read.proofs.tree.content_place.Goals as goal

pub overflow_mul-result : goal.overflow_mul-result
overflow_mul-result g c = omega (arith, length_now (g.R.Region.memory c.args.region.now))

pub overflow_add-result : goal.overflow_add-result
overflow_add-result g c = omega (arith, length_now (g.R.Region.memory c.args.region.now))
