use Rattle.std.proofs.Common.{ap, arith, length}
use Rattle.bp_read.proofs.RegionWords.{length_now}
use Rattle.pm_region.specs.Memory.{Memory}
use Rattle.bp_volume.proofs.snapshot.drop_snapshot.Goals as goal

pub store-requires-clause-in_range : goal.store-requires-clause-in_range
store-requires-clause-in_range g c =
    let same = ap (λ (memory : Memory). length memory.base) c.barrier.ensures in
    omega (arith, same, length_now (g.R.Region.memory c.args.region.now), c.requires.sized.at_least)
