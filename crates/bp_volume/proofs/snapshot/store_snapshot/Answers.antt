use Rattle.std.proofs.Common.{◌∙◌, ap, arith, length}
use Rattle.bp_read.proofs.RegionWords.{length_now}
use Rattle.pm_region.specs.Memory.{Memory}
use Rattle.bp_volume.proofs.snapshot.store_snapshot.Goals as goal

pub load-root-requires : goal.load-root-requires
load-root-requires g c = omega (arith, length_now (g.R.Region.memory c.args.region.now), c.requires.sized.at_least)

pub load-size-requires : goal.load-size-requires
load-size-requires g c = omega (arith, length_now (g.R.Region.memory c.args.region.now), c.requires.sized.at_least)

pub store-requires-clause-in_range : goal.store-requires-clause-in_range
store-requires-clause-in_range g c = omega (arith, length_now (g.R.Region.memory c.args.region.now), c.requires.sized.at_least)

pub store-requires-2-clause-in_range : goal.store-requires-2-clause-in_range
store-requires-2-clause-in_range g c =
    let same = ap (λ (memory : Memory). length memory.base) c.barrier.ensures ∙ ap (λ (memory : Memory). length memory.base) c.store.ensures in
    omega (arith, same, length_now (g.R.Region.memory c.args.region.now), c.requires.sized.at_least)
