use Rattle.std.proofs.Common.{ℕ, ap, arith, length}
use Rattle.bp_read.proofs.RegionWords.{length_now}
use Rattle.pm_region.specs.Memory.{Memory}
use Rattle.bp_volume.proofs.upgrade.store_three.Goals as goal

abbrev size : Memory → ℕ
size memory = length memory.base

pub store-requires-clause-in_range : goal.store-requires-clause-in_range
store-requires-clause-in_range g c = omega (arith, length_now (g.R.Region.memory c.args.region.now), c.requires.sized.at_least)

pub store-requires-2-clause-in_range : goal.store-requires-2-clause-in_range
store-requires-2-clause-in_range g c = omega (arith, ap size c.store.ensures, length_now (g.R.Region.memory c.args.region.now), c.requires.sized.at_least)

pub store-requires-3-clause-in_range : goal.store-requires-3-clause-in_range
store-requires-3-clause-in_range g c =
    omega (arith, ap size c.store.ensures, ap size c.store-2.ensures, length_now (g.R.Region.memory c.args.region.now), c.requires.sized.at_least)

pub store-requires-4-clause-in_range : goal.store-requires-4-clause-in_range
store-requires-4-clause-in_range g c =
    omega (arith, ap size c.store.ensures, ap size c.store-2.ensures, ap size c.store-3.ensures, length_now (g.R.Region.memory c.args.region.now), c.requires.sized.at_least)

pub store-requires-5-clause-in_range : goal.store-requires-5-clause-in_range
store-requires-5-clause-in_range g c =
    omega (arith, ap size c.store.ensures, ap size c.store-2.ensures, ap size c.store-3.ensures, ap size c.store-4.ensures, ap size c.barrier.ensures, length_now (g.R.Region.memory c.args.region.now), c.requires.sized.at_least)
